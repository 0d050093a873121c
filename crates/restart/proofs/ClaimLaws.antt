-- The claim, with cuts: the saved state, with the new data that is left, ends as an uncut run does; the state's total tells what is left; and a call
-- writes no other bytes than those that may hold anything after a cut.
-- Assumes nothing.
use mathlib.Core.Path.{◌≡◌, refl, sym, ap, subst, ◌∙◌}
use mathlib.Core.Bool.{Bool, true, false}
use mathlib.Core.Logic.{◌⊎◌, inl, inr, ⊎_elim}
use mathlib.Core.List.{List, [], ◌∷◌, ◌++◌, append-nil, append_assoc}
use Prim.Native.Nat.{ℕ, ◌+◌, ◌^◌, ◌≤◌, ◌<◌}
use native.Mathlib.Nat.{mod-eq_of_lt}
use native.Mathlib.Omega.{arith}
use lib.Dec.{eqb}
use lib.ListN.{length, drop, length-append, length-drop, drop_of_length-le}
use lib.Seq.{drop-append-le, drop-drop}
use Rattle.text.specs.Choice.{pick, both}
use Rattle.text.proofs.ChoiceLaws.{bool}
use Rattle.ranges.specs.Ranges.{least_blocks}
use Rattle.state.specs.Refusals.{none}
use Rattle.state.specs.declared.Lengths.{Lengths}
use Rattle.state.specs.declared.State.{State}
use Rattle.rules.specs.declared.Terms.{Terms}
use Rattle.transfer_list.specs.Opening.{terms_of}
use Rattle.transfer_list.specs.declared.header.Header.{Header}
use Rattle.possible.specs.Possible.{is_possible}
use Rattle.machine.specs.Machine.{Machine, feeds}
use Rattle.machine.specs.Pieces.{joined}
use Rattle.machine.specs.Stops.{Halted, going_on, halting, call_ends, call_takes, Sent, start, send, send_all}
use Rattle.machine.specs.Writes.{writes_to_stop}
use Rattle.machine.proofs.MachineLaws.{never, Sound, counts-most}
use Rattle.machine.proofs.StopLaws.{AtConfig, halting-sound, call-keeps, call-all, call-stopped, same_start, same-all}
use Rattle.machine.proofs.WriteLaws.{cut-ends, call-covers, writes-less}
use Rattle.updater.specs.Areas.{Areas, SameLengths}
use Rattle.updater.specs.Fits.{Fits}
use Rattle.updater.specs.Steps.{Config}
use Rattle.updater.specs.Run.{halts_at, machine}
use Rattle.updater.specs.Calls.{lengths_at, is_run, outcome_of, leaves}
use Rattle.restart.specs.Writes.{Spot, AreasOutside, Agree, spots}
use Rattle.updater.proofs.FitLaws.{fits-sound}
use Rattle.restart.proofs.OutsideLaws.{areas-wider}
use Rattle.restart.proofs.StopLaws.{stops-there}
use Rattle.restart.proofs.RestartLaws.{reads, restarts, covers}
use Rattle.sequence.specs.Sequence.{CallsMade, no_calls, all_calls, last_says}
use Rattle.sequence.specs.Claim.{opened_config, Accepted, NoStop}
use Rattle.restart.specs.Restart.{writes, Saves, Standing, opening, saved, cut, EndsAlike, RestartClaim}
use Rattle.sequence.proofs.Running.{Into, Ready, Running}
use Rattle.sequence.proofs.RunningLaws.{Stays, running-sound, running-stays, goes-stays}
use Rattle.sequence.proofs.PossibleLaws.{running-terms}
use Rattle.sequence.proofs.SequenceLaws.{Callable, leaves-ends, all-sent, all-callable, all-total, stop-sent, more-sent, all-ends, ended-feeds, ended-says}
use Rattle.sequence.proofs.ClaimLaws.{starts, header, starts-callable}

-- ---- the bytes not taken, for any machine

module _ (k : Machine) (halts : k.Config → Bool) (Inv : k.Config → Type 0) (g : Sound k Inv) where
  -- the machine has stopped, and no call stops for saving any more
  abbrev Finished : Sent k.Config → Type 0
  Finished c = (k.stopped c.end.config ≡ true) × (c.end.halted ≡ false)

  -- after calls whose fresh bytes are `all`: the rest is what was not taken of them
  record Left (all : List ℕ) (c : Sent k.Config) : Type 0 where
    rest : c.rest ≡ drop c.taken all
    most : c.taken ≤ length all

  takes-most : (ys : List ℕ) (m : k.Config) → call_takes k halts ys m ≤ length ys
  unfolding call_takes
  takes-most ys m = counts-most (halting k halts) (AtConfig Inv) (halting-sound k halts Inv g) ys (going_on m)

  left-send : (all q : List ℕ) (c : Sent k.Config) → Inv c.end.config → Finished c ⊎ Left all c →
      Finished (send k halts q c) ⊎ Left (all ++ q) (send k halts q c)
  left-send all q c v = go
    where
      p : k.Config
      p = c.end.config

      piece : List ℕ
      piece = c.rest ++ q

      e : Halted k.Config
      e = call_ends k halts piece p

      n : ℕ
      n = call_takes k halts piece p

      -- the bytes from the piece's start on are those of all from the first not taken on
      onward : Left all c → (i : ℕ) → drop i piece ≡ drop (c.taken + i) (all ++ q)
      onward x i =
          ap (λ (l : List ℕ). drop i (l ++ q)) x.rest
          ∙ ap (drop i) (sym (drop-append-le c.taken all q x.most))
          ∙ drop-drop i c.taken (all ++ q)

      most : Left all c → c.taken + length piece ≡ length (all ++ q)
      most x =
          let a = length-append c.rest q in
          let b = length-append all q in
          let d = ap length x.rest ∙ length-drop c.taken all in
          let m = x.most in
          omega arith

      took : (b : Bool) → Left all c → (b ≡ false → n ≡ length piece) →
          Left (all ++ q) (record { end = e; rest = pick b (drop n piece) []; taken = c.taken + n })
      took true x whole =
          let a = most x in
          let b = takes-most piece p in
          record { rest = onward x n; most = omega arith }
      took false x whole =
          let a = most x in
          let b = whole refl in
          record { rest = sym (drop_of_length-le (all ++ q) {i = c.taken + n} (omega arith)); most = omega arith }

      go : Finished c ⊎ Left all c → Finished (send k halts q c) ⊎ Left (all ++ q) (send k halts q c)
      go (inl f) =
          let same = (call-stopped k halts Inv g piece p v f.0).0 in
          inl (ap (λ (d : Halted k.Config). k.stopped d.config) same ∙ f.0, ap (λ (d : Halted k.Config). d.halted) same)
      go (inr x) =
          ⊎_elim
          (λ h. inr (took e.halted x (λ f. absurd (never (sym h ∙ f)))))
          (λ h.
          ⊎_elim
          (λ s. inl (s, h))
          (λ s. inr (took e.halted x (λ f. call-all k halts Inv g piece p v h s)))
          (bool (k.stopped e.config)))
          (bool e.halted)

  left-all : (all : List ℕ) (qs : List (List ℕ)) (c : Sent k.Config) → Inv c.end.config → Finished c ⊎ Left all c →
      Finished (send_all k halts qs c) ⊎ Left (all ++ joined qs) (send_all k halts qs c)
  unfolding send_all joined
  left-all all [] c v x = rw append-nil x
  left-all all (q ∷ qs) c v x =
      rw (← append_assoc all q (joined qs))
      (left-all (all ++ q) qs (send k halts q c) (call-keeps k halts Inv g (c.rest ++ q) c.end.config v) (left-send all q c v x))

  -- where the machine goes on, or the last one stopped, the rest is what all of them did not take
  left-going : (qs : List (List ℕ)) (m : k.Config) → Inv m → (Finished (send_all k halts qs (start m)) → ⊥) →
      Left (joined qs) (send_all k halts qs (start m))
  left-going qs m v n =
      ⊎_elim (λ f. absurd (n f)) (λ x. x) (left-all [] qs (start m) v (inr (record { rest = refl; most = omega arith })))

-- ---- a cut

module _ (s : List ℕ) (lengths : Lengths) (h : Header) where
  abbrev terms : Terms
  terms = terms_of lengths h

  abbrev machine_here : Machine
  machine_here = machine least_blocks s terms

  abbrev halts_here : Config → Bool
  halts_here = halts_at least_blocks s terms

  abbrev writes_here : List ℕ → Config → Spot → Bool
  writes_here xs p = writes_to_stop machine_here halts_here (spots least_blocks s terms) xs p

  writes_here_lem : (xs : List ℕ) (p : Config) → Running s lengths h p → writes s xs p ≡ writes_here xs p
  writes_here_lem xs p v =
      ap (λ (t : Terms). writes_to_stop (machine least_blocks s t) (halts_at least_blocks s t) (spots least_blocks s t) xs p) (running-terms s lengths h p v)

  -- a call may begin from what a cut leaves: its state is the same, and its areas are as long
  cut-callable : (W : Spot → Bool) (p q : Config) → Agree W p q → Callable s lengths h p → Callable s lengths h q
  unfolding is_run
  cut-callable W p q a v =
      let same : SameLengths p.areas q.areas =
      record {
        image = a.areas.image.size;
        stash = a.areas.stash.size;
        work = a.areas.work.size;
        result = a.areas.result.size;
        patch = ap length a.areas.patch;
      } in
      let stays : Stays p.state p.state = record { line = refl; at = refl; lengths = refl; holds = refl } in
      let y = subst (Stays p.state) (sym a.state) stays in
      let lent : lengths_at s q.areas ≡ lengths_at s p.areas = rw (same.image, same.stash, same.work, same.result, same.patch) in
      record {
        running =
            running-stays s lengths h p q v.running ((restarts s terms).keeps W p q a v.running.fits) same y
            (subst (Into s terms) (sym a.state) v.running.into)
            (subst (Ready s) (sym a.state) v.running.ready)
            (goes-stays s lengths h p q y (ap (λ (t : State). t.refusal) a.state) v.running.goes);
        possible = λ e.
            ap (λ (t : State). goes_on (lengths_at s q.areas) t) a.state
            ∙ ap (λ (l : Lengths). goes_on l p.state) lent
            ∙ v.possible (sym (ap (λ (t : State). t.refusal.number) a.state) ∙ e);
      }
    where
      goes_on : Lengths → State → Bool
      goes_on l t = both (eqb t.refusal.number none) (is_possible least_blocks s l t)

  cut-feeds : (xs : List ℕ) (p q : Config) → Running s lengths h p → Agree (writes s xs p) p q → feeds machine_here xs q ≡ feeds machine_here xs p
  cut-feeds xs p q v a =
      (cut-ends machine_here halts_here (spots least_blocks s terms) (Fits s terms) (reads s terms) (fits-sound s terms) (restarts s terms)
      xs p q v.fits (subst (λ (W : Spot → Bool). Agree W p q) (writes_here_lem xs p v) a)).0

  call-outside : (xs piece later : List ℕ) → piece ++ later ≡ xs → (p : Config) → Callable s lengths h p →
      AreasOutside (writes s xs p) p.areas (leaves least_blocks s piece p).areas
  call-outside xs piece later j p v =
      rw (leaves-ends s lengths h piece p v, writes_here_lem xs p v.running, ← j)
      (areas-wider _ (writes_here piece p) _ _ (λ i z. writes-less machine_here halts_here (spots least_blocks s terms) piece later p i z)
      (call-covers machine_here halts_here (spots least_blocks s terms) (Fits s terms) (λ W p q. AreasOutside W p.areas q.areas) (fits-sound s terms)
      (covers s terms) piece p v.running.fits))

-- ---- saved states and cuts

module _ (s : List ℕ) (a : Areas) (e : Accepted s a) (bytes : List ℕ) where
  abbrev lengths_here : Lengths
  lengths_here = lengths_at s a

  abbrev machine_opened : Machine
  machine_opened = machine least_blocks s (terms_of lengths_here (header s a e))

  abbrev halts_opened : Config → Bool
  halts_opened = halts_at least_blocks s (terms_of lengths_here (header s a e))

  abbrev RunningHere : Config → Type 0
  RunningHere = Running s lengths_here (header s a e)

  abbrev sound_here : Sound machine_opened RunningHere
  sound_here = running-sound s lengths_here (header s a e)

  -- where the run stands a call may begin, and with what is left of the data the run past every stop ends as it does from the opening
  record Stood (xs : List ℕ) (p : Config) : Type 0 where
    callable : Callable s lengths_here (header s a e) p
    ends : feeds machine_opened xs p ≡ feeds machine_opened bytes (opened_config s a)

  -- .. and the total tells what that is
  record Onward (xs : List ℕ) (p : Config) : Type 0 where
    left : xs ≡ drop p.state.total bytes
    most : p.state.total ≤ length bytes

  -- after calls over a part of the data
  module _ {xs : List ℕ} {p : Config} (v : Callable s lengths_here (header s a e) p) (q : List ℕ) (qs : List (List ℕ)) (later : List ℕ)
      (j : joined (q ∷ qs) ++ later ≡ xs) (f : Saves (last_says least_blocks s q qs (no_calls p))) where
    abbrev after : CallsMade
    after = all_calls least_blocks s (q ∷ qs) (no_calls p)

    abbrev sent : Sent Config
    sent = send_all machine_opened halts_opened (q ∷ qs) (start p)

    is-sent : after ≡ record { config = sent.end.config; rest = sent.rest; taken = sent.taken }
    is-sent = all-sent s lengths_here (header s a e) p v (q ∷ qs)

    saved-callable : Callable s lengths_here (header s a e) after.config
    saved-callable =
        subst (λ (c : CallsMade). Callable s lengths_here (header s a e) c.config) (sym is-sent)
        (all-callable s lengths_here (header s a e) (q ∷ qs) (start p) v)

    saved-ends : feeds machine_opened (after.rest ++ later) after.config ≡ feeds machine_opened xs p
    saved-ends =
        subst (λ (c : CallsMade). feeds machine_opened (c.rest ++ later) c.config ≡ feeds machine_opened xs p) (sym is-sent)
        (sym
        ((same-all machine_opened halts_opened RunningHere sound_here [] (q ∷ qs) p (start p)
        (same_start machine_opened halts_opened RunningHere sound_here p v.running)).ends later)
        ∙ ap (λ (l : List ℕ). feeds machine_opened l p) j)

    -- the run stopped for saving, or wants more: it has not ended
    not-finished : Finished machine_opened halts_opened RunningHere sound_here sent → ⊥
    not-finished n =
        ⊎_elim
        (λ z. never (sym (stop-sent s lengths_here (header s a e) p v q qs z) ∙ n.1))
        (λ z. never (sym n.0 ∙ more-sent s lengths_here (header s a e) p v q qs z))
        f

    saved-onward : length bytes < 2 ^ 64 → Onward xs p → Onward (after.rest ++ later) after.config
    saved-onward small o =
        let x = left-going machine_opened halts_opened RunningHere sound_here (q ∷ qs) p v.running not-finished in
        let t = after.taken in
        let n = p.state.total in
        let rest : after.rest ≡ drop t (joined (q ∷ qs)) = rw is-sent x.rest in
        let most : t ≤ length (joined (q ∷ qs)) = rw is-sent x.most in
        let some = ap length j ∙ ap length o.left ∙ length-drop n bytes in
        let all = length-append (joined (q ∷ qs)) later in
        let within = o.most in
        let total : after.config.state.total ≡ n + t =
        all-total s lengths_here (header s a e) p v (q ∷ qs) ∙ mod-eq_of_lt (omega arith) in
        record {
          left =
              ap (λ (l : List ℕ). l ++ later) rest
              ∙ sym (drop-append-le t (joined (q ∷ qs)) later most)
              ∙ ap (drop t) (j ∙ o.left)
              ∙ drop-drop t n bytes
              ∙ ap (λ (i : ℕ). drop i bytes) (sym total);
          most = rw total (omega arith);
        }

  stood : {xs : List ℕ} {p : Config} → Standing s a bytes xs p → Stood xs p
  stood opening = record { callable = starts-callable s a e; ends = refl }
  stood (saved z q qs later j f) =
      let r = stood z in
      record { callable = saved-callable r.callable q qs later j f; ends = saved-ends r.callable q qs later j f ∙ r.ends }
  stood (cut {xs} {p} {q} z g) =
      let r = stood z in
      record {
        callable = cut-callable s lengths_here (header s a e) _ p q g r.callable;
        ends = cut-feeds s lengths_here (header s a e) xs p q r.callable.running g ∙ r.ends;
      }

  onward : length bytes < 2 ^ 64 → {xs : List ℕ} {p : Config} → Standing s a bytes xs p → Onward xs p
  onward small opening = let n = (starts s a e).total in record { left = rw n; most = omega arith }
  onward small (saved z q qs later j f) = saved-onward (stood z).callable q qs later j f small (onward small z)
  onward small (cut z g) =
      let o = onward small z in
      let n = ap (λ (t : State). t.total) g.state in
      record { left = rw n o.left; most = rw n o.most }

  restarted : {xs : List ℕ} {p : Config} → Standing s a bytes xs p → (q : List ℕ) (qs : List (List ℕ)) → joined (q ∷ qs) ≡ xs →
      NoStop (last_says least_blocks s q qs (no_calls p)) → (r : List ℕ) (rs : List (List ℕ)) → joined (r ∷ rs) ≡ bytes →
      NoStop (last_says least_blocks s r rs (no_calls (opened_config s a))) → EndsAlike s a p q r qs rs
  restarted {xs} {p} z q qs j n r rs i m =
      let first = opened_config s a in
      let x = stood z in
      let v = x.callable in
      let w = starts-callable s a e in
      let l = lengths_here in
      let h = header s a e in
      let same : (all_calls least_blocks s (q ∷ qs) (no_calls p)).config ≡ (all_calls least_blocks s (r ∷ rs) (no_calls first)).config =
      ended-feeds s l h p v q qs n
      ∙ ap (λ (ys : List ℕ). feeds machine_opened ys p) j
      ∙ x.ends
      ∙ ap (λ (ys : List ℕ). feeds machine_opened ys first) (sym i)
      ∙ sym (ended-feeds s l h first w r rs m) in
      record {
        config = same;
        outcome = ended-says s l h p v q qs n ∙ ap (λ (c : Config). outcome_of s c.state) same ∙ sym (ended-says s l h first w r rs m);
      }

-- THE CLAIM, with cuts
pub restart_claim : RestartClaim
restart_claim =
    record {
      stops-there = stops-there;
      stops = λ s a z q qs later j f. saved z q qs later j (inl f);
      cuts = λ s a z b o. cut z (record { state = refl; areas = o });
      restarts = λ s a e {bytes} z. restarted s a e bytes z;
      ends = λ s a e {bytes} {xs} {p} z. all-ends s (lengths_at s a) (header s a e) p (stood s a e bytes z).callable;
      onward = λ s a e {bytes} z small. (onward s a e bytes small z).left;
      only_those = λ s a e {bytes} {xs} {p} z piece later j.
          call-outside s (lengths_at s a) (header s a e) xs piece later j p (stood s a e bytes z).callable;
    }

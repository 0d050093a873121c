-- An opening by the two readings: they match where no line has an empty range; the first line that has one is refused with 6; and what opens now
-- opened before.
-- Assumes nothing.
use mathlib.Core.Path.{◌≡◌, refl, sym, ◌∙◌, ap, subst}
use mathlib.Core.Bool.{Bool, true, false}
use mathlib.Core.Logic.{⊎_elim}
use Prim.Native.Nat.{ℕ, zero, suc, ◌+◌, ◌≤◌, ◌<◌}
use native.Mathlib.Omega.{arith}
use mathlib.Core.List.{List, []}
use lib.ListN.{length}
use lib.Dec.{leb, ltb, eqb}
use borrow.Author.Tests.{leb-true, leb-false, ltb-true, ltb-false, eqb-true, eqb-false}
use Rattle.text.specs.Choice.{pick}
use Rattle.text.specs.Line.{line_at}
use Rattle.text.proofs.ChoiceLaws.{bool}
use Rattle.text.proofs.LineLaws.{line_some}
use Rattle.ranges.specs.Ranges.{least_blocks}
use Rattle.state.specs.Refusals.{none, line_form}
use Rattle.state.specs.Stashes.{Stash}
use Rattle.state.specs.States.{refusing_at, no_refusal}
use Rattle.state.specs.declared.Lengths.{Lengths}
use Rattle.state.specs.declared.Refusal.{Refusal}
use Rattle.state.specs.declared.State.{State}
use Rattle.command.specs.Commands.{command_of}
use Rattle.command.specs.Faults.{fault_byte}
use Rattle.command.specs.declared.Line.{Line}
use Rattle.rules.specs.Rules.{refusal_for, refusal_of}
use Rattle.rules.specs.Held.{held_after}
use Rattle.rules.specs.declared.Terms.{Terms}
use Rattle.transfer_list.specs.Header.{first_line, header_of, start_refusal}
use Rattle.transfer_list.specs.Opening.{terms_of, counted_blocks, total_refusal, lines_refusal, commands_refusal, open_refusal, accepted_state, refused_state, open_state}
use Rattle.transfer_list.specs.Faults.{line_start}
use Rattle.transfer_list.specs.declared.header.Header.{Header}
use Rattle.transfer_list.proofs.HeaderLaws.{start_none}
use Rattle.transfer_list.proofs.FaultLaws.{line-next, first-start}
use Rattle.compatibility.specs.EmptyRanges.{least_before, has_empty, WithoutEmpty}
use Rattle.compatibility.specs.Matching.{MatchingRefusals, MatchingStates}
use Rattle.compatibility.specs.AsBefore.{FirstEmpty}
use Rattle.compatibility.proofs.Lines.{clash, IllCommand, SameLine, same, ill, line_same, line-lost, line_kept}
use Rattle.compatibility.proofs.Starts.{StartsAt, next-starts, first-starts, past_end, starts-later}
use Rattle.std.specs.Prelude.{Result, Ok, Err}
use Rattle.transfer_list.specs.declared.header.BadHeader.{BadHeader}

pub matching-refusal : (r : Refusal) → MatchingRefusals r r
matching-refusal r = record { number = refl; line = refl; byte = λ other. refl }

pub matching-state : (t : State) → MatchingStates t t
matching-state t = record { refusal = matching-refusal t.refusal; rest = refl }

-- two refusals with 6 of one line
pub matching_six : (line a b : ℕ) → MatchingRefusals (refusing_at line_form line a) (refusing_at line_form line b)
matching_six line a b = record { number = refl; line = refl; byte = λ other. absurd (other refl) }

-- what matches none is none
matching-none : (r : Refusal) → MatchingRefusals no_refusal r → r ≡ no_refusal
matching-none r k = fields (sym k.number) (sym k.line) (sym (k.byte (λ e. absurd (let z : ◌≡◌ {A = ℕ} none line_form = e in omega arith))))
  where
    fields : {n l b : ℕ} → n ≡ none → l ≡ 0 → b ≡ 0 → refusing_at n l b ≡ no_refusal
    fields p q w = cc

-- an ill formed line is 6
pub ill-refused : (l : List ℕ) (a : Line) (terms : Terms) (held : List Stash) → IllCommand l a.command → refusal_for l terms held a.hash a.command ≡ line_form
unfolding refusal_for
ill-refused l a terms held i = rw i.1

module _ (s : List ℕ) (terms : Terms) (h : Header) where
  -- the lines from one on, by what was read of it
  turn : (least n line at : ℕ) (held : List Stash) (counted : ℕ) (a : Line) → Refusal
  turn least n line at held counted a =
      pick (eqb (refusal_for (line_at s at) terms held a.hash a.command) none)
      (lines_refusal least n s terms h (line + 1) (at + length (line_at s at)) (held_after held a.hash a.command) (counted + counted_blocks a.command))
      (refusing_at (refusal_for (line_at s at) terms held a.hash a.command) line (fault_byte at a.command))

  -- an ill formed one
  turn-ill : (least n line at : ℕ) (held : List Stash) (counted : ℕ) (a : Line) → IllCommand (line_at s at) a.command →
      turn least n line at held counted a ≡ refusing_at line_form line (fault_byte at a.command)
  unfolding turn
  turn-ill least n line at held counted a i = rw (ill-refused (line_at s at) a terms held i)

  lines_by : (least n line at : ℕ) (held : List Stash) (counted : ℕ) →
      lines_refusal least (suc n) s terms h line at held counted
      ≡ pick (leb (length s) at) (total_refusal h counted) (turn least n line at held counted (command_of least (line_at s at)))
  unfolding lines_refusal refusal_of turn
  lines_by least n line at held counted = refl

  -- ---- without an empty range

  lines-matching : (n line at : ℕ) (held : List Stash) (counted : ℕ) → WithoutEmpty s → StartsAt s at →
      MatchingRefusals (lines_refusal least_before n s terms h line at held counted) (lines_refusal least_blocks n s terms h line at held counted)
  unfolding lines_refusal refusal_of turn
  lines-matching zero line at held counted w x = matching-refusal (total_refusal h counted)
  lines-matching (suc n) line at held counted w x =
      go (leb (length s) at) (command_of least_before (line_at s at)) (command_of least_blocks (line_at s at))
      (line_same (line_at s at) (rw x.place (w x.line x.command)))
      (λ held counted. lines-matching n (line + 1) (at + length (line_at s at)) held counted w (next-starts x))
    where
      Rest : Type 0
      Rest = (held : List Stash) (counted : ℕ) →
          MatchingRefusals (lines_refusal least_before n s terms h (line + 1) (at + length (line_at s at)) held counted)
          (lines_refusal least_blocks n s terms h (line + 1) (at + length (line_at s at)) held counted)

      chosen : (t : Bool) (x y z : Refusal) → MatchingRefusals x y → MatchingRefusals (pick t x z) (pick t y z)
      chosen true x y z k = k
      chosen false x y z k = matching-refusal z

      go : (t : Bool) (a b : Line) → SameLine (line_at s at) a b → Rest →
          MatchingRefusals (pick t (total_refusal h counted) (turn least_before n line at held counted a))
          (pick t (total_refusal h counted) (turn least_blocks n line at held counted b))
      go true a b k rest = matching-refusal (total_refusal h counted)
      go false a b (same e) rest =
          subst (λ b. MatchingRefusals (turn least_before n line at held counted a) (turn least_blocks n line at held counted b)) e
          (chosen (eqb (refusal_for (line_at s at) terms held a.hash a.command) none) _ _ _
          (rest (held_after held a.hash a.command) (counted + counted_blocks a.command)))
      go false a b (ill e i j) rest =
          rw (turn-ill least_before n line at held counted a i, turn-ill least_blocks n line at held counted b j)
          (matching_six line (fault_byte at a.command) (fault_byte at b.command))

  -- ---- with one

  -- a refusal that is none did not come of a line
  passes : (least n line at : ℕ) (held : List Stash) (counted : ℕ) (a : Line) → turn least n line at held counted a ≡ no_refusal →
      (refusal_for (line_at s at) terms held a.hash a.command ≡ none)
      × (lines_refusal least n s terms h (line + 1) (at + length (line_at s at)) (held_after held a.hash a.command) (counted + counted_blocks a.command) ≡ no_refusal)
  unfolding turn
  passes least n line at held counted a = go (eqb (refusal_for (line_at s at) terms held a.hash a.command) none) refl
    where
      rest : Refusal
      rest =
          lines_refusal least n s terms h (line + 1) (at + length (line_at s at)) (held_after held a.hash a.command) (counted + counted_blocks a.command)

      number : ℕ
      number = refusal_for (line_at s at) terms held a.hash a.command

      go : (t : Bool) → eqb number none ≡ t → pick t rest (refusing_at number line (fault_byte at a.command)) ≡ no_refusal →
          (number ≡ none) × (rest ≡ no_refusal)
      go true p e = (eqb-true number none p, e)
      go false p e = absurd (eqb-false number none p (ap (λ (q : Refusal). q.number) e))

  -- one that passes hands on to the lines behind it
  turn-passed : (least n line at : ℕ) (held : List Stash) (counted : ℕ) (a : Line) → refusal_for (line_at s at) terms held a.hash a.command ≡ none →
      turn least n line at held counted a
      ≡ lines_refusal least n s terms h (line + 1) (at + length (line_at s at)) (held_after held a.hash a.command) (counted + counted_blocks a.command)
  unfolding turn
  turn-passed least n line at held counted a e = rw e

  -- a line that is not refused is not ill formed
  not-ill : (at : ℕ) (held : List Stash) (a : Line) → refusal_for (line_at s at) terms held a.hash a.command ≡ none → IllCommand (line_at s at) a.command → ⊥
  not-ill at held a e i = let z : ◌≡◌ {A = ℕ} none line_form = sym e ∙ ill-refused (line_at s at) a terms held i in omega arith

  module _ {k : ℕ} (first : FirstEmpty s k) where
    ended : (line at : ℕ) → length s ≤ at → at ≡ line_start s line → line ≤ k → ⊥
    ended line at l e m =
        clash first.here (past_end s (line_start s k) (omega (arith, starts-later s line k m)))

    abbrev Lost : Refusal → Type 0
    Lost r = (r.number ≡ line_form) × (r.line ≡ k)

    abbrev LostIn : ℕ → Type 0
    LostIn n =
        (line at : ℕ) (held : List Stash) (counted : ℕ) → length s ≤ n + at → first_line ≤ line → at ≡ line_start s line → line ≤ k →
        lines_refusal least_before n s terms h line at held counted ≡ no_refusal → Lost (lines_refusal least_blocks n s terms h line at held counted)

    lines-lost : (n : ℕ) → LostIn n
    lines-lost zero line at held counted f c e m o = absurd (ended line at (omega arith) e m)
    lines-lost (suc n) line at held counted f c e m o =
        rw (lines_by least_blocks n line at held counted)
        (go (lines-lost n) (leb (length s) at) refl (ltb line k) refl (sym (lines_by least_before n line at held counted) ∙ o))
      where
        -- a line before the one with the empty range
        earlier : LostIn n → at < length s → line < k → (a b : Line) → SameLine (line_at s at) a b → turn least_before n line at held counted a ≡ no_refusal →
            Lost (turn least_blocks n line at held counted b)
        earlier rest w l a b (same q) t =
            let p = passes least_before n line at held counted a t in
            let some = line_some s at w in
            subst (λ b. Lost (turn least_blocks n line at held counted b)) q
            (rw (turn-passed least_blocks n line at held counted a p.0)
            (rest (line + 1) (at + length (line_at s at)) (held_after held a.hash a.command) (counted + counted_blocks a.command)
            (omega arith) (omega arith) (line-next s line (omega arith) e) (omega arith) p.1))
        earlier rest w l a b (ill q i j) t = absurd (not-ill at held a (passes least_before n line at held counted a t).0 i)

        -- that line
        here : line ≡ k → (b : Line) → IllCommand (line_at s at) b.command → Lost (turn least_blocks n line at held counted b)
        here l b i = rw (turn-ill least_blocks n line at held counted b i) (refl, l)

        go : LostIn n → (t : Bool) → leb (length s) at ≡ t → (u : Bool) → ltb line k ≡ u →
            pick t (total_refusal h counted) (turn least_before n line at held counted (command_of least_before (line_at s at))) ≡ no_refusal →
            Lost (pick t (total_refusal h counted) (turn least_blocks n line at held counted (command_of least_blocks (line_at s at))))
        go rest true t u w o = absurd (ended line at (leb-true (length s) at t) e m)
        go rest false t true w o =
            earlier rest (leb-false (length s) at t) (ltb-true line k w) (command_of least_before (line_at s at)) (command_of least_blocks (line_at s at))
            (line_same (line_at s at) (rw e (first.before line c (ltb-true line k w)))) o
        go rest false t false w o =
            let z : line ≡ k = omega (arith, ltb-false line k w) in
            here z (command_of least_blocks (line_at s at)) (line-lost (line_at s at) (rw (e, z) first.here))

  -- ---- what opens now

  -- no line from one on has an empty range
  abbrev Later : ℕ → Type 0
  Later line = (k : ℕ) → line ≤ k → has_empty (line_at s (line_start s k)) ≡ false

  abbrev KeptIn : ℕ → Type 0
  KeptIn n =
      (line at : ℕ) (held : List Stash) (counted : ℕ) → length s ≤ n + at → first_line ≤ line → at ≡ line_start s line →
      lines_refusal least_blocks n s terms h line at held counted ≡ no_refusal →
      (lines_refusal least_before n s terms h line at held counted ≡ no_refusal) × Later line

  lines-kept : (n : ℕ) → KeptIn n
  unfolding lines_refusal
  lines-kept zero line at held counted f c e o = (o, λ k l. past_end s (line_start s k) (omega (arith, starts-later s line k l)))
  lines-kept (suc n) line at held counted f c e o =
      rw (lines_by least_before n line at held counted) (go (lines-kept n) (leb (length s) at) refl (sym (lines_by least_blocks n line at held counted) ∙ o))
    where
      -- this line, and those behind it
      from-here : has_empty (line_at s at) ≡ false → Later (line + 1) → Later line
      from-here x rest k l = ⊎_elim
          (λ u. rest k (omega (arith, ltb-true line k u)))
          (λ u. let z : line ≡ k = omega (arith, ltb-false line k u) in subst (λ k. has_empty (line_at s (line_start s k)) ≡ false) z (rw (sym e) x))
          (bool (ltb line k))

      passed : KeptIn n → at < length s → (a b : Line) → ((IllCommand (line_at s at) b.command → ⊥) → (a ≡ b) × (has_empty (line_at s at) ≡ false)) →
          turn least_blocks n line at held counted b ≡ no_refusal → (turn least_before n line at held counted a ≡ no_refusal) × Later line
      passed rest w a b kept t =
          let p = passes least_blocks n line at held counted b t in
          let q = kept (not-ill at held b p.0) in
          let some = line_some s at w in
          let r = rest (line + 1) (at + length (line_at s at)) (held_after held b.hash b.command) (counted + counted_blocks b.command)
          (omega arith) (omega arith) (line-next s line (omega arith) e) p.1 in (
            ap (turn least_before n line at held counted) q.0 ∙ turn-passed least_before n line at held counted b p.0 ∙ r.0,
            from-here q.1 r.1,
          )

      go : KeptIn n → (t : Bool) → leb (length s) at ≡ t →
          pick t (total_refusal h counted) (turn least_blocks n line at held counted (command_of least_blocks (line_at s at))) ≡ no_refusal →
          (pick t (total_refusal h counted) (turn least_before n line at held counted (command_of least_before (line_at s at))) ≡ no_refusal) × Later line
      go rest true t o = (o, λ k l. past_end s (line_start s k) (omega (arith, leb-true (length s) at t, starts-later s line k l)))
      go rest false t o =
          passed rest (leb-false (length s) at t) (command_of least_before (line_at s at)) (command_of least_blocks (line_at s at)) (line_kept (line_at s at)) o

-- ---- the whole opening

module _ (s : List ℕ) (lengths : Lengths) where
  pub open_matching : WithoutEmpty s → MatchingRefusals (open_refusal least_before s lengths) (open_refusal least_blocks s lengths)
  unfolding open_refusal commands_refusal
  open_matching w = go (eqb (start_refusal s lengths).number none) (header_of s) refl
    where
      go : (t : Bool) (read : Result Header BadHeader) → header_of s ≡ read →
          MatchingRefusals (pick t (commands_refusal least_before s lengths read) (start_refusal s lengths))
          (pick t (commands_refusal least_blocks s lengths read) (start_refusal s lengths))
      go true (Ok h) e = lines-matching s (terms_of lengths h) h (suc (length s)) first_line h.first [] 0 w (first-starts s e)
      go true (Err bad) e = matching-refusal no_refusal
      go false read e = matching-refusal (start_refusal s lengths)

  pub open_state-matching : WithoutEmpty s → MatchingStates (open_state least_before s lengths) (open_state least_blocks s lengths)
  unfolding open_state refused_state
  open_state-matching w = go (open_refusal least_before s lengths) (open_refusal least_blocks s lengths) (open_matching w)
    where
      chosen : (t : Bool) (a b : Refusal) → MatchingRefusals a b →
          MatchingStates (pick t (accepted_state s lengths) (refused_state a)) (pick t (accepted_state s lengths) (refused_state b))
      chosen true a b k = matching-state (accepted_state s lengths)
      chosen false a b k = record { refusal = k; rest = refl }

      go : (a b : Refusal) → MatchingRefusals a b →
          MatchingStates (pick (eqb a.number none) (accepted_state s lengths) (refused_state a))
          (pick (eqb b.number none) (accepted_state s lengths) (refused_state b))
      go a b k =
          subst (λ (n : ℕ). MatchingStates (pick (eqb a.number none) (accepted_state s lengths) (refused_state a))
          (pick (eqb n none) (accepted_state s lengths) (refused_state b))) k.number (chosen (eqb a.number none) a b k)

  -- an opening that refuses nothing came to its lines
  came : (least : ℕ) → open_refusal least s lengths ≡ no_refusal → (h : Header) × (header_of s ≡ Ok h)
      × (lines_refusal least (suc (length s)) s (terms_of lengths h) h first_line h.first [] 0 ≡ no_refusal)
      × ((other : ℕ) → open_refusal other s lengths ≡ lines_refusal other (suc (length s)) s (terms_of lengths h) h first_line h.first [] 0)
  unfolding open_refusal commands_refusal
  came least = go (eqb (start_refusal s lengths).number none) refl
    where
      go : (t : Bool) → eqb (start_refusal s lengths).number none ≡ t →
          pick t (commands_refusal least s lengths (header_of s)) (start_refusal s lengths) ≡ no_refusal →
          (h : Header) × (header_of s ≡ Ok h)
          × (lines_refusal least (suc (length s)) s (terms_of lengths h) h first_line h.first [] 0 ≡ no_refusal)
          × ((other : ℕ) → open_refusal other s lengths ≡ lines_refusal other (suc (length s)) s (terms_of lengths h) h first_line h.first [] 0)
      go true e o =
          let k = start_none s lengths (eqb-true (start_refusal s lengths).number none e) in
          (k.header, k.read, rw k.read at o, λ other. rw (e, k.read))
      go false e o = absurd (eqb-false (start_refusal s lengths).number none e (ap (λ (q : Refusal). q.number) o))

  pub open_lost : open_refusal least_before s lengths ≡ no_refusal → {line : ℕ} → FirstEmpty s line →
      ((open_refusal least_blocks s lengths).number ≡ line_form) × ((open_refusal least_blocks s lengths).line ≡ line)
  open_lost o {line} first =
      let k = came least_before o in
      rw (k.3 least_blocks)
      (lines-lost s (terms_of lengths k.0) k.0 first (suc (length s)) first_line k.0.first [] 0 (omega arith) (omega arith)
      (first-start s k.1).0 first.command k.2)

  pub open_kept : open_refusal least_before s lengths ≡ no_refusal → WithoutEmpty s → open_refusal least_blocks s lengths ≡ no_refusal
  open_kept o w = matching-none (open_refusal least_blocks s lengths) (subst (λ r. MatchingRefusals r (open_refusal least_blocks s lengths)) o (open_matching w))

  pub open_before : open_refusal least_blocks s lengths ≡ no_refusal → (open_refusal least_before s lengths ≡ no_refusal) × WithoutEmpty s
  open_before o =
      let k = came least_blocks o in
      let r = lines-kept s (terms_of lengths k.0) k.0 (suc (length s)) first_line k.0.first [] 0 (omega arith) (omega arith)
      (first-start s k.1).0 k.2 in
      (k.3 least_before ∙ r.0, r.1)

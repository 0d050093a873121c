-- What an opening reports: `opening-reports` is the theorem of document 02, R-6.
-- Assumes nothing.
use mathlib.Core.Path.{◌≡◌, refl, sym, ap, subst, ◌∙◌}
use mathlib.Core.Bool.{Bool, true, false}
use mathlib.Core.List.{List, [], ◌∷◌}
use mathlib.Core.Logic.{⊎_elim}
use Prim.Native.Nat.{ℕ, zero, suc, ◌+◌, ◌-◌, ◌/◌, ◌≤◌, ◌<◌}
use native.Mathlib.Omega.{arith}
use lib.ListN.{length, take, drop, get_or, length-drop}
use lib.Seq.{get_or-drop}
use lib.Dec.{leb, ltb, eqb}
use borrow.Author.Tests.{eq-eqb, eqb-true, leb-false, ltb-true, ltb-false}
use Rattle.text.specs.Choice.{pick, no}
use Rattle.text.specs.Rows.{first_of}
use Rattle.text.specs.Expected.{expected_at, lf}
use Rattle.text.specs.Line.{line_of, line_at, lfs_in}
use Rattle.text.specs.Number.{number_at}
use Rattle.text.proofs.ChoiceLaws.{picks}
use Rattle.text.proofs.ExpectedLaws.{expected-next}
use Rattle.text.proofs.NumberLaws.{number-next, number-no_lf}
use Rattle.ranges.specs.Ranges.{least_blocks}
use Rattle.state.specs.Limits.{block_bytes, most_list_bytes, most_stashes}
use Rattle.state.specs.Refusals.{none, area_size, list_length, header_form, other_version, header_limit, line_form, total_differs, has_byte}
use Rattle.state.specs.States.{refusing, refusing_at, no_refusal}
use Rattle.state.specs.Stashes.{Stash}
use Rattle.state.specs.declared.Lengths.{Lengths}
use Rattle.state.specs.declared.State.{State}
use Rattle.command.specs.Commands.{command_of}
use Rattle.command.specs.Faults.{fault_of, fault_byte}
use Rattle.command.specs.declared.Command.{Command}
use Rattle.command.specs.declared.Command.TheVariants.{Bad}
use Rattle.command.specs.declared.Command.TheVariants as command
use Rattle.command.proofs.FaultLaws.{byte-none}
use Rattle.faults.specs.Language.{Language, FirstFault, good, fault, Found}
use Rattle.faults.specs.Lines.{HeaderLine, CommandLine}
use Rattle.faults.specs.Findings.{finding_at}
use Rattle.faults.proofs.Faults.{command-found, header-found}
use Rattle.faults.proofs.Ends.{command-ends, header-ends, fault-at}
use Rattle.rules.specs.Rules.{refusal_for, refusal_of}
use Rattle.rules.specs.declared.Terms.{Terms}
use Rattle.rules.proofs.FormLaws.{form-is, form_or_none}
use Rattle.transfer_list.specs.Header.{header_line_at, header_of, version3, first_line, are_areas, header_rows, start_rows, start_refusal}
use Rattle.transfer_list.specs.Opening.{terms_of, total_refusal, line_refusal, lines_refusal, commands_refusal, open_refusal, open_state, accepted_state, refused_state}
use Rattle.transfer_list.specs.Faults.{start_after, line_start, FaultAt, GoodBefore, Pinpoints, Reports}
use Rattle.transfer_list.specs.declared.header.Header.{Header}
use Rattle.transfer_list.proofs.HeaderLaws.{header-line, line-then, same-header}
use Rattle.std.specs.Prelude.{Result, Ok, Err}
use Rattle.text.specs.Read.{Read, on_read, on_result}
use Rattle.text.proofs.ReadLaws.{read-same}
use Rattle.transfer_list.specs.declared.header.BadHeader.{BadHeader}
use Rattle.transfer_list.specs.Header.{fault_at}

-- ---- refusals that report no byte

apart : {A : Type 0} {number n : ℕ} → has_byte number ≡ false → number ≡ n → has_byte n ≡ true → A
apart e h t = absurd (let z : ◌≡◌ {A = Bool} true false = sym t ∙ ap has_byte (sym h) ∙ e in let y : ◌≡◌ {A = ℕ} 0 1 = cc in omega arith)

plain-reports : (s : List ℕ) (number line : ℕ) → has_byte number ≡ false → Reports s (refusing number line)
plain-reports s number line e = record { header = λ h. apart e h refl; line = λ h. apart e h refl; other = λ h. refl }

-- ---- where lines start

-- a LF with none before it ends the line
line-length : (t : List ℕ) (k : ℕ) → k < length t → get_or t k 0 ≡ lf → lfs_in (take k t) ≡ 0 → length (line_of t) ≡ suc k
unfolding line_of lfs_in
line-length [] k h e n = absurd (omega arith)
line-length (b ∷ t) zero h e n = rw (eq-eqb b lf e)
line-length (b ∷ t) (suc k) h e n = go (eqb b lf) n (λ m. line-length t k (omega arith) e m)
  where
    go : (c : Bool) → pick c (suc (lfs_in (take k t))) (lfs_in (take k t)) ≡ 0 → (lfs_in (take k t) ≡ 0 → length (line_of t) ≡ suc k) →
        length (pick c (b ∷ []) (b ∷ line_of t)) ≡ suc (suc k)
    go true m f = absurd (omega arith)
    go false m f = ap suc (f m)

-- what is found of a command that is not refused
unrefused-good : (at : ℕ) (l : List ℕ) (terms : Terms) (held : List Stash) (hash : List ℕ) (c : Command) →
    refusal_for l terms held hash c ≡ none → finding_at at c ≡ good
unfolding refusal_for finding_at
unrefused-good at l terms held hash (command.Zero set) e = refl
unrefused-good at l terms held hash (command.Erase set) e = refl
unrefused-good at l terms held hash (command.New set) e = refl
unrefused-good at l terms held hash (command.Move target n source) e = refl
unrefused-good at l terms held hash (command.Bsdiff target n source) e = refl
unrefused-good at l terms held hash (command.Stash set) e = refl
unrefused-good at l terms held hash command.Free e = refl
unrefused-good at l terms held hash command.Unsupported e = absurd (omega (arith, e))
unrefused-good at l terms held hash (command.Bad p) e = absurd (omega (arith, e))

module _ (s : List ℕ) where
  -- past a header line the next one starts
  header-next : (at : ℕ) {v next : ℕ} → header_line_at s at ≡ Ok (v, next) → next ≡ at + length (line_at s at)
  unfolding header_line_at line_at
  header-next at {v} {next} = go (number_at s at) refl
    where
      ended : (w i : ℕ) → number_at s at ≡ Ok (w, i) → (m : Result ℕ ℕ) → expected_at s i lf ≡ m →
          ◌≡◌ {A = Read ℕ} (on_result m (λ next. Ok (w, next)) Err) (Ok (v, next)) → next ≡ at + length (line_of (drop at s))
      ended w i e (Ok j) f h =
          let x = number-next s at e in
          let y = expected-next s i lf f in
          let q : at + (i - at) ≡ i = omega arith in
          let l =
          line-length (drop at s) (i - at) (omega (arith, length-drop at s)) (get_or-drop at s (i - at) 0 ∙ ap (λ (j : ℕ). get_or s j 0) q ∙ y.2)
          (number-no_lf s at e)
          in
          let z : j ≡ next = (read-same h).1 in
          omega arith
      ended w i e (Err p) f h = absurd (let z : ◌≡◌ {A = ℕ} 0 1 = cc in omega arith)

      go : (n : Read ℕ) → number_at s at ≡ n →
          ◌≡◌ {A = Read ℕ} (on_read n (λ w i. on_result (expected_at s i lf) (λ next. Ok (w, next)) Err) Err) (Ok (v, next)) →
          next ≡ at + length (line_of (drop at s))
      go (Ok (w, i)) e h = ended w i e (expected_at s i lf) refl h
      go (Err p) e h = absurd (let z : ◌≡◌ {A = ℕ} 0 1 = cc in omega arith)

  start-next : (n : ℕ) {at next : ℕ} → at ≡ start_after n s → next ≡ at + length (line_at s at) → next ≡ start_after (suc n) s
  unfolding start_after
  start-next n e f = f ∙ rw e

  pub line-next : (line : ℕ) {at : ℕ} → 0 < line → at ≡ line_start s line → at + length (line_at s at) ≡ line_start s (line + 1)
  line-next line w e =
      let z : line + 1 - 1 ≡ suc (line - 1) = omega arith in
      rw z (start-next (line - 1) e refl)

  -- ---- lines that are good

  good-at-first : GoodBefore s 1
  good-at-first = record { header = λ k a b c. absurd (omega arith); commands = λ k a b. absurd (omega arith) }

  -- a good line more; `at` is where it starts
  module _ (line : ℕ) {at : ℕ} (e : at ≡ line_start s line) (g : GoodBefore s line) where
    or_this : (L : Language) → L (line_at s at) → (k : ℕ) → k < suc line → (k < line → L (line_at s (line_start s k))) → L (line_at s (line_start s k))
    or_this L here k h earlier = go (ltb k line) refl
      where
        go : (t : Bool) → ltb k line ≡ t → L (line_at s (line_start s k))
        go true f = earlier (ltb-true k line f)
        go false f = let z : line ≡ k = omega (arith, ltb-false k line f) in subst (λ (n : ℕ). L (line_at s (line_start s n))) z (rw (sym e) here)

    good-header : line < first_line → HeaderLine (line_at s at) → GoodBefore s (suc line)
    good-header h here =
        record {
          header = λ k a b c. or_this HeaderLine here k c (g.header k a b);
          commands = λ k a b. absurd (omega arith);
        }

    good-command : first_line ≤ line → CommandLine (line_at s at) → GoodBefore s (suc line)
    good-command h here =
        record {
          header = λ k a b c. g.header k a b (omega arith);
          commands = λ k a b. or_this CommandLine here k b (g.commands k a);
        }

  header-line-good : (at : ℕ) {v next : ℕ} → header_line_at s at ≡ Ok (v, next) → HeaderLine (line_at s at)
  unfolding header_line_at
  header-line-good at {v} {next} e = subst (Found HeaderLine at (line_at s at)) (go (number_at s at) e) (header-found s at)
    where
      ended : (w : ℕ) (m : Result ℕ ℕ) → ◌≡◌ {A = Read ℕ} (on_result m (λ next. Ok (w, next)) Err) (Ok (v, next)) →
          on_result m (λ next. good) fault ≡ good
      ended w (Ok j) h = refl
      ended w (Err q) h = absurd (let z : ◌≡◌ {A = ℕ} 0 1 = cc in omega arith)

      go : (n : Read ℕ) → ◌≡◌ {A = Read ℕ} (on_read n (λ w i. on_result (expected_at s i lf) (λ next. Ok (w, next)) Err) Err) (Ok (v, next)) →
          on_read n (λ w i. on_result (expected_at s i lf) (λ next. good) fault) fault ≡ good
      go (Ok (w, i)) h = ended w (expected_at s i lf) h
      go (Err q) h = absurd (let z : ◌≡◌ {A = ℕ} 0 1 = cc in omega arith)

  -- a line that is not refused is good
  pub command-line-good : (at : ℕ) (terms : Terms) (held : List Stash) → refusal_of least_blocks (line_at s at) terms held ≡ none → CommandLine (line_at s at)
  unfolding refusal_of
  command-line-good at terms held e =
      let l = line_at s at in
      subst (Found CommandLine at l) (unrefused-good at l terms held (command_of least_blocks l).hash (command_of least_blocks l).command e) (command-found s at)

  -- ---- 3

  header-fault : (at : ℕ) {p : ℕ} → at ≤ length s → header_line_at s at ≡ Err p → FaultAt HeaderLine s at p
  unfolding header_line_at
  header-fault at {p} h e =
      let f = subst (Found HeaderLine at (line_at s at)) (go (number_at s at) e) (header-found s at) in
      record { first = f; place = fault-at HeaderLine header-ends s at h f }
    where
      ended : (w : ℕ) (m : Result ℕ ℕ) → ◌≡◌ {A = Read ℕ} (on_result m (λ next. Ok (w, next)) Err) (Err p) →
          on_result m (λ next. good) fault ≡ fault p
      ended w (Ok j) h = absurd (let z : ◌≡◌ {A = ℕ} 0 1 = cc in omega arith)
      ended w (Err q) h = cc

      go : (n : Read ℕ) → ◌≡◌ {A = Read ℕ} (on_read n (λ w i. on_result (expected_at s i lf) (λ next. Ok (w, next)) Err) Err) (Err p) →
          on_read n (λ w i. on_result (expected_at s i lf) (λ next. good) fault) fault ≡ fault p
      go (Ok (w, i)) h = ended w (expected_at s i lf) h
      go (Err q) h = cc

  abbrev HeaderFault : ℕ → ℕ → Type 0
  HeaderFault line byte = (0 < line) × (line < first_line) × Pinpoints HeaderLine s (refusing_at header_form line byte)

  -- line k of the header, which starts at `at`, is at fault; or the fault is in the rest
  header_or : (k : ℕ) {at line byte : ℕ} (rest : ℕ → ℕ → Result Header BadHeader) → 0 < k → k < first_line → at ≤ length s → at ≡ line_start s k → GoodBefore s k →
      on_read (header_line_at s at) rest (λ x. Err (fault_at k x)) ≡ Err (fault_at line byte) →
      ((v next : ℕ) → header_line_at s at ≡ Ok (v, next) → GoodBefore s (suc k) → rest v next ≡ Err (fault_at line byte) → HeaderFault line byte) →
      HeaderFault line byte
  header_or k {at} {line} {byte} rest a b w e before h more = go (header_line_at s at) refl h
    where
      go : (n : Read ℕ) → header_line_at s at ≡ n → on_read n rest (λ x. Err (fault_at k x)) ≡ Err (fault_at line byte) → HeaderFault line byte
      go (Ok (v, next)) f g = more v next f (good-header k e before b (header-line-good at f)) g
      go (Err p) f g =
          let q : fault_at line byte ≡ fault_at k p = cc in
          let x : line ≡ k = ap (λ (b : BadHeader). b.line) q in
          let y : byte ≡ p = ap (λ (b : BadHeader). b.byte) q in
          rw (x, y) (a, b, record { before = before; fault = rw (sym e) (header-fault at w f) })

  header_pinpoints : {line byte : ℕ} → header_of s ≡ Err (fault_at line byte) → HeaderFault line byte
  unfolding header_of start_after
  header_pinpoints h =
      header_or 1 _ (omega arith) (omega arith) (omega arith) refl good-at-first h (λ version i l₁ g₁ h₁.
      header_or 2 _ (omega arith) (omega arith) (header-line s 0 l₁).within (start-next 0 refl (header-next 0 l₁)) g₁ h₁ (λ total j l₂ g₂ h₂.
      header_or 3 _ (omega arith) (omega arith) (header-line s i l₂).within
      (start-next 1 (start-next 0 refl (header-next 0 l₁)) (header-next i l₂)) g₂ h₂ (λ stashes k l₃ g₃ h₃.
      header_or 4 _ (omega arith) (omega arith) (header-line s j l₃).within
      (start-next 2 (start-next 1 (start-next 0 refl (header-next 0 l₁)) (header-next i l₂)) (header-next j l₃)) g₃ h₃
      (λ blocks first l₄ g₄ h₄. absurd (let z : ◌≡◌ {A = ℕ} 0 1 = cc in omega arith)))))

  -- the command lines start with the fifth line, and the four before it are good
  abbrev pub Fifth : ℕ → Type 0
  Fifth first = (first ≡ line_start s first_line) × GoodBefore s first_line

  pub first-start : {h : Header} → header_of s ≡ Ok h → Fifth h.first
  unfolding header_of start_after
  first-start e =
      line-then (header_line_at s 0) _ _ e (λ version i l₁ e₁.
      line-then (header_line_at s i) _ _ e₁ (λ total j l₂ e₂.
      line-then (header_line_at s j) _ _ e₂ (λ stashes k l₃ e₃.
      line-then (header_line_at s k) _ _ e₃ (λ blocks first l₄ e₄.
      let a₂ = start-next 0 refl (header-next 0 l₁) in
      let a₃ = start-next 1 a₂ (header-next i l₂) in
      let a₄ = start-next 2 a₃ (header-next j l₃) in
      let g₂ = good-header 1 refl good-at-first (omega arith) (header-line-good 0 l₁) in
      let g₃ = good-header 2 a₂ g₂ (omega arith) (header-line-good i l₂) in
      let g₄ = good-header 3 a₃ g₃ (omega arith) (header-line-good j l₃) in (
        sym (ap (λ (x : Header). x.first) (same-header e₄)) ∙ start-next 3 a₄ (header-next k l₄),
        good-header 4 a₄ g₄ (omega arith) (header-line-good k l₄),
      )))))

  start-reports : (lengths : Lengths) → Reports s (start_refusal s lengths)
  unfolding start_refusal
  start-reports lengths = go (header_of s) refl
    where
      rows : (read : Result Header BadHeader) → header_of s ≡ read → Reports s (first_of (header_rows lengths read) no_refusal)
      rows (Err bad) e =
          record {
            header = λ h. header_pinpoints e;
            line = λ h. absurd (let z : ◌≡◌ {A = ℕ} header_form line_form = h in omega arith);
            other = λ h. absurd (let z : ◌≡◌ {A = ℕ} 0 1 = cc in omega arith);
          }
      rows (Ok h) e =
          picks (Reports s) (no (eqb h.version version3)) (refusing other_version 1) _ (λ t. plain-reports s other_version 1 refl)
          (λ t. picks (Reports s) (ltb most_stashes h.stashes) (refusing header_limit 3) _ (λ u. plain-reports s header_limit 3 refl)
          (λ u. picks (Reports s) (ltb (lengths.stash / block_bytes) h.blocks) (refusing header_limit 4) no_refusal
          (λ v. plain-reports s header_limit 4 refl) (λ v. plain-reports s none 0 refl)))

      go : (read : Result Header BadHeader) → header_of s ≡ read → Reports s (first_of (start_rows s lengths read) no_refusal)
      go read e =
          picks (Reports s) (no (are_areas lengths)) (refusing area_size 0) _ (λ t. plain-reports s area_size 0 refl)
          (λ t. picks (Reports s) (ltb most_list_bytes (length s)) (refusing list_length 0) _ (λ u. plain-reports s list_length 0 refl)
          (λ u. rows read e))

  -- ---- 6

  first_of_lem : (at : ℕ) (c : Command) {p : ℕ} → c ≡ Bad p → Found CommandLine at (line_at s at) (finding_at at c) →
      FirstFault CommandLine at (line_at s at) (fault_byte at c)
  unfolding finding_at fault_byte fault_of
  first_of_lem at c e f = rw e (subst (λ (d : Command). Found CommandLine at (line_at s at) (finding_at at d)) e f)

  pub line-fault : (at : ℕ) {p : ℕ} → at ≤ length s → (command_of least_blocks (line_at s at)).command ≡ Bad p →
      FaultAt CommandLine s at (fault_byte at (command_of least_blocks (line_at s at)).command)
  line-fault at h e =
      let f = first_of_lem at (command_of least_blocks (line_at s at)).command e (command-found s at) in
      record { first = f; place = fault-at CommandLine command-ends s at h f }

  line-reports : (terms : Terms) (line at : ℕ) (held : List Stash) → first_line ≤ line → at < length s → at ≡ line_start s line →
      GoodBefore s line → Reports s (line_refusal least_blocks s terms line at held)
  unfolding refusal_of
  line-reports terms line at held n w e before =
      let l = line_at s at in
      let hash = (command_of least_blocks l).hash in
      let c = (command_of least_blocks l).command in
      ⊎_elim
      (λ b.
      let number : refusal_for l terms held hash c ≡ line_form = form-is l terms held hash b.1 in
      record {
        header = λ h. absurd (omega (arith, number, h));
        line = λ h. (n, rw (sym e) w, record { before = before; fault = rw (sym e) (line-fault at (omega (arith, w)) b.1) });
        other = λ h. apart h number refl;
      })
      (λ n. record { header = λ h. apart n.number h refl; line = λ h. apart n.number h refl; other = λ h. sym (byte-none at c refl n.none) })
      (form_or_none l terms held hash c)

  total-reports : (h : Header) (counted : ℕ) → Reports s (total_refusal h counted)
  unfolding total_refusal
  total-reports h counted =
      picks (Reports s) (no (eqb counted h.total)) (refusing total_differs 2) no_refusal (λ t. plain-reports s total_differs 2 refl)
      (λ t. plain-reports s none 0 refl)

  lines_report : (n : ℕ) (terms : Terms) (h : Header) (line at : ℕ) (held : List Stash) (counted : ℕ) → first_line ≤ line →
      at ≡ line_start s line → GoodBefore s line → Reports s (lines_refusal least_blocks n s terms h line at held counted)
  unfolding lines_refusal
  lines_report zero terms h line at held counted w e before = total-reports h counted
  lines_report (suc n) terms h line at held counted w e before =
      picks (Reports s) (leb (length s) at) (total_refusal h counted) _ (λ t. total-reports h counted)
      (λ t. picks (Reports s) (eqb (refusal_of least_blocks (line_at s at) terms held) none) _ (line_refusal least_blocks s terms line at held)
      (λ u. let z : line + 1 ≡ suc line = omega arith in
      lines_report n terms h (line + 1) (at + length (line_at s at)) _ _ (omega arith) (line-next line (omega arith) e)
      (rw z (good-command line e before w (command-line-good at terms held (eqb-true (refusal_of least_blocks (line_at s at) terms held) none u)))))
      (λ u. line-reports terms line at held w (omega (arith, leb-false (length s) at t)) e before))

  -- ---- an opening

  open_reports : (lengths : Lengths) → Reports s (open_refusal least_blocks s lengths)
  unfolding open_refusal commands_refusal
  open_reports lengths =
      picks (Reports s) (eqb (start_refusal s lengths).number none) (commands_refusal least_blocks s lengths (header_of s)) (start_refusal s lengths)
      (λ t. go (header_of s) refl) (λ t. start-reports lengths)
    where
      go : (read : Result Header BadHeader) → header_of s ≡ read → Reports s (commands_refusal least_blocks s lengths read)
      go (Ok h) e = let f = first-start e in lines_report (suc (length s)) (terms_of lengths h) h first_line h.first [] 0 (omega arith) f.0 f.1
      go (Err bad) e = plain-reports s none 0 refl

  -- the refusal that an opening's state holds: 3 and 6 name the first line that is not good, and report the first byte at which no good line
  -- could go on; every other number reports no byte
  pub opening-reports : (lengths : Lengths) → Reports s (open_state least_blocks s lengths).refusal
  unfolding open_state accepted_state refused_state
  opening-reports lengths =
      picks (λ (t : State). Reports s t.refusal) (eqb (open_refusal least_blocks s lengths).number none) (accepted_state s lengths)
      (refused_state (open_refusal least_blocks s lengths)) (λ t. plain-reports s none 0 refl) (λ t. open_reports lengths)

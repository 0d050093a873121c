-- Where lines start: every position behind an LF is the start of a line, by its number; past the text's end there are no lines.
-- Assumes nothing.
use mathlib.Core.Path.{◌≡◌, refl, ◌∙◌, ap, subst}
use mathlib.Core.Bool.{Bool, true, false}
use mathlib.Core.Logic.{◌⊎◌, inl, inr, ⊎_elim}
use Prim.Native.Nat.{ℕ, zero, suc, ◌+◌, ◌-◌, ◌≤◌, ◌<◌}
use native.Mathlib.Omega.{arith}
use mathlib.Core.List.{List, []}
use lib.ListN.{length, get_or}
use lib.Dec.{leb, ltb, eqb}
use borrow.Author.Tests.{leb-true, leb-false, ltb-true, ltb-false, eqb-true}
use Rattle.text.specs.Expected.{lf}
use Rattle.text.specs.Line.{line_at, line_number}
use Rattle.text.specs.Word.{is_first_word}
use Rattle.text.proofs.ChoiceLaws.{bool, both_true}
use Rattle.text.proofs.LineLaws.{line-none, line_some, line-byte, line-last}
use Rattle.command.specs.Words.{word_in}
use Rattle.command.specs.Commands.{command_of}
use Rattle.transfer_list.specs.Header.{first_line, header_of}
use Rattle.transfer_list.specs.Faults.{start_after, line_start}
use Rattle.transfer_list.specs.declared.header.Header.{Header}
use Rattle.transfer_list.proofs.FaultLaws.{line-next, first-start}
use Rattle.possible.specs.Possible.{at_line}
use Rattle.compatibility.specs.EmptyRanges.{has_empty, empty_in_command, WithoutEmpty}
use Rattle.compatibility.specs.AsBefore.{FirstEmpty}
use Rattle.std.specs.Prelude.{Ok}

-- a position is where a command line starts, or past the last
pub record StartsAt (s : List ℕ) (at : ℕ) : Type 0 where
  pub line : ℕ
  pub command : first_line ≤ line
  pub place : at ≡ line_start s line

pub next-starts : {s : List ℕ} {at : ℕ} → StartsAt s at → StartsAt s (at + length (line_at s at))
next-starts {s} x =
    record { line = x.line + 1; command = omega (arith, x.command); place = line-next s x.line (omega (arith, x.command)) x.place }

pub first-starts : (s : List ℕ) {h : Header} → header_of s ≡ Ok h → StartsAt s h.first
first-starts s e = record { line = first_line; command = omega arith; place = (first-start s e).0 }

-- a line ends at its first LF, so one that starts before a position behind an LF ends there or before
line_short : (s : List ℕ) (from at : ℕ) → from < at → at ≤ length s → get_or s (at - 1) 0 ≡ lf → from + length (line_at s from) ≤ at
line_short s from at l m e = ⊎_elim
    (λ h. let o = ltb-true at (from + length (line_at s from)) h in
    let k : from + (at - 1 - from) ≡ at - 1 = omega arith in
    let x = line-last s from (at - 1 - from) (line-byte s from (at - 1 - from) (omega arith) ∙ ap (λ (i : ℕ). get_or s i 0) k ∙ e) in
    omega arith)
    (λ h. ltb-false at (from + length (line_at s from)) h)
    (bool (ltb at (from + length (line_at s from))))

-- lines from one start on reach every position behind an LF
reach-start : (n : ℕ) (s : List ℕ) (from at : ℕ) → at ≤ n + from → from ≤ at → at ≤ length s → get_or s (at - 1) 0 ≡ lf → StartsAt s from → StartsAt s at
reach-start zero s from at n o m e x = let z : at ≡ from = omega arith in record { line = x.line; command = x.command; place = z ∙ x.place }
reach-start (suc n) s from at h o m e x = ⊎_elim
    (λ l. let k = ltb-true from at l in
    let some = line_some s from (omega arith) in
    reach-start n s (from + length (line_at s from)) at (omega arith) (line_short s from at k m e) m e (next-starts x))
    (λ l. let z : at ≡ from = omega (arith, ltb-false from at l) in record { line = x.line; command = x.command; place = z ∙ x.place })
    (bool (ltb from at))

-- a state at the start of a command line
pub state-starts : (s : List ℕ) {h : Header} (line at : ℕ) → header_of s ≡ Ok h → at_line s h line at ≡ true → StartsAt s at
unfolding at_line
state-starts s {h} line at e t =
    let p = both_true (leb h.first at) _ t in
    let q = both_true (leb at (length s)) _ p.1 in
    let r = both_true (eqb (get_or s (at - 1) 0) lf) (eqb line (line_number s at)) q.1 in
    reach-start at s h.first at (omega arith) (leb-true h.first at p.0) (leb-true at (length s) q.0)
    (eqb-true (get_or s (at - 1) 0) lf r.0) (first-starts s e)

-- ---- past the text's end

pub no-empty : has_empty [] ≡ false
unfolding has_empty command_of word_in is_first_word empty_in_command
no-empty = refl

pub past_end : (s : List ℕ) (at : ℕ) → length s ≤ at → has_empty (line_at s at) ≡ false
past_end s at l = rw (line-none s at l) no-empty

-- a line starts no later than one with a higher number
start-grows : (s : List ℕ) (m n : ℕ) → m ≤ n → start_after m s ≤ start_after n s
unfolding start_after
start-grows s m zero l = let z : m ≡ 0 = omega arith in rw z (omega arith)
start-grows s m (suc n) l = ⊎_elim
    (λ h. omega (arith, start-grows s m n (leb-true m n h)))
    (λ h. let z : m ≡ suc n = omega (arith, leb-false m n h) in rw z (omega arith))
    (bool (leb m n))

pub starts-later : (s : List ℕ) (line k : ℕ) → line ≤ k → line_start s line ≤ line_start s k
starts-later s line k l = start-grows s (line - 1) (k - 1) (omega arith)

-- ---- the first line with an empty range

module _ (s : List ℕ) where
  abbrev NoneBefore : ℕ → Type 0
  NoneBefore line = (k : ℕ) → first_line ≤ k → k < line → has_empty (line_at s (line_start s k)) ≡ false

  abbrev Decided : Type 0
  Decided = WithoutEmpty s ⊎ ((line : ℕ) × FirstEmpty s line)

  -- no line is left
  none_left : (line : ℕ) → length s ≤ line_start s line → NoneBefore line → WithoutEmpty s
  none_left line l none k c = ⊎_elim
      (λ h. none k c (ltb-true k line h))
      (λ h. past_end s (line_start s k) (omega (arith, starts-later s line k (ltb-false k line h))))
      (bool (ltb k line))

  one_further : (line : ℕ) → has_empty (line_at s (line_start s line)) ≡ false → NoneBefore line → NoneBefore (line + 1)
  one_further line e none k c l = ⊎_elim
      (λ h. none k c (ltb-true k line h))
      (λ h. let z : line ≡ k = omega (arith, ltb-false k line h) in subst (λ k. has_empty (line_at s (line_start s k)) ≡ false) z e)
      (bool (ltb k line))

  -- from a line on, with at most n bytes left
  find_first : (n line : ℕ) → length s ≤ n + line_start s line → first_line ≤ line → NoneBefore line → Decided
  find_first zero line l c none = inl (none_left line (omega arith) none)
  find_first (suc n) line l c none =
      go (leb (length s) (line_start s line)) refl (has_empty (line_at s (line_start s line))) refl (find_first n (line + 1))
    where
      go : (t : Bool) → leb (length s) (line_start s line) ≡ t → (u : Bool) → has_empty (line_at s (line_start s line)) ≡ u →
          (length s ≤ n + line_start s (line + 1) → first_line ≤ line + 1 → NoneBefore (line + 1) → Decided) → Decided
      go true t u e rest = inl (none_left line (leb-true (length s) (line_start s line) t) none)
      go false t true e rest = inr (line, record { command = c; here = e; before = none })
      go false t false e rest =
          let some = line_some s (line_start s line) (leb-false (length s) (line_start s line) t) in
          let next = line-next s line {at = line_start s line} (omega arith) refl in
          rest (omega arith) (omega arith) (one_further line e none)

  pub first-empty : Decided
  first-empty = find_first (length s) first_line (omega arith) (omega arith) (λ k c l. absurd (omega arith))

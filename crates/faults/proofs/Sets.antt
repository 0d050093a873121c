-- A range set, and what follows it: the reader's answer is the first fault, whatever may follow the set, if that begins with no digit.
-- Assumes nothing.
use mathlib.Core.Path.{◌≡◌, refl}
use mathlib.Core.Bool.{Bool, true, false}
use Prim.Native.Nat.{ℕ, zero, suc, ◌+◌, ◌-◌, ◌/◌, ◌≤◌}
use native.Mathlib.Numerals.{add-one}
use native.Mathlib.Omega.{arith}
use mathlib.Core.List.{List, [], ◌∷◌}
use lib.ListN.{drop}
use lib.Dec.{leb}
use borrow.Author.Tests.{leb-true, le-leb}
use Rattle.text.specs.Choice.{pick}
use Rattle.text.specs.Expected.{comma}
use Rattle.text.specs.Number.{largest, is_digit, meets}
use Rattle.text.specs.declared.number.Need.TheVariants as need
use Rattle.text.proofs.NeedLaws.{digit-most}
use Rattle.ranges.specs.declared.RangeSet as sets
use Rattle.ranges.specs.Ranges.{least_blocks, item_at, pair_at, on_pair, Range, follow, pairs_at, set_at, summary, ranges_at}
use Rattle.faults.specs.Language.{Language, GoesOn, Finding, fault, Byte}
use Rattle.faults.specs.Lines.{NumberThat, any, Pair, Pairs, RangeSet}
use Rattle.faults.proofs.LanguageLaws.{Reads, same, byte-alive}
use Rattle.faults.proofs.Seen.{seen, OnlyLf}
use Rattle.faults.proofs.Numbers.{clash, written-most, written_of, number-to, number-alive, number-found}
use Rattle.faults.proofs.Needs.{most_exact, count_exact, least_exact}
use Rattle.faults.proofs.Marks.{byte-found}
use Rattle.std.specs.Prelude.{Ok, Err}
use Rattle.text.specs.Read.{Read, on_read}

-- a language none of whose texts begins with a digit
abbrev pub Apart : Language → Type 0
Apart K = (b : ℕ) (t : List ℕ) → is_digit b ≡ true → K (b ∷ t) → ⊥

pub byte-apart : (m : ℕ) (K : Language) → is_digit m ≡ false → Apart (Byte m K)
unfolding Byte
byte-apart m K none b t e l = clash e (rw l.0 none)

-- a range set begins with one
pub set_begin : (K : Language) (b : ℕ) (t : List ℕ) → is_digit b ≡ false → RangeSet K (b ∷ t) → ⊥
unfolding RangeSet NumberThat
set_begin K b t e d = clash d.0 e

-- ---- every set has something before and after it

-- what follows a start: a comma and an end from `low` on
abbrev From : Language → ℕ → Language
From K low = Byte comma (NumberThat (λ end. leb low end) (λ end. K))

-- the starts that leave room for an end
abbrev Start : ℕ → Bool
Start = meets (need.AtMost (largest - least_blocks))

-- a pair as the reader asks for it
abbrev Asked : Language → Language
Asked K = Byte comma (NumberThat Start (λ start. From K (start + least_blocks)))

module _ (K : Language) where
  -- where an end follows, there is one
  end-room : (low : ℕ) (t : List ℕ) → From K low t → low ≤ largest
  unfolding Byte NumberThat
  end-room low [] d = absurd d
  end-room low (c ∷ []) d = absurd d.1
  end-room low (c ∷ b ∷ t) d =
      let x = written_of (λ end. leb low end) (λ end. K) (b - 48) t d.1.1 in
      omega (arith, leb-true low x.0 x.3, written-most x.2 (omega (arith, digit-most b d.1.0)))

  asked_byte : (t : List ℕ) → Pair K t → Asked K t
  unfolding Byte meets
  asked_byte [] d = d
  asked_byte (c ∷ t) d =
      (d.0, number-to (λ w u l e k. (le-leb w (largest - least_blocks) (omega (arith, end-room (suc w) u k)), rw (add-one w) k)) t d.1)

  byte_asked : (t : List ℕ) → Asked K t → Pair K t
  unfolding Byte
  byte_asked [] d = d
  byte_asked (c ∷ t) d = (d.0, number-to (λ w u l e k. (refl, rw (← add-one w) k)) t d.1)

module _ (K : Language) (alive : GoesOn K []) where
  end-alive : (low : ℕ) → low ≤ largest → GoesOn (From K low) []
  unfolding meets
  end-alive low l =
      byte-alive comma (NumberThat (λ end. leb low end) (λ end. K))
      (number-alive (need.AtLeast low) (least_exact low l) (λ end. K) (λ w e m. alive))

  pair_alive : GoesOn (Pair K) []
  unfolding meets
  pair_alive =
      let a = byte-alive comma (NumberThat Start (λ start. From K (start + least_blocks)))
      (number-alive (need.AtMost (largest - least_blocks)) (most_exact (largest - least_blocks)) (λ start. From K (start + least_blocks))
      (λ start e l. end-alive (start + least_blocks) (omega (arith, leb-true start (largest - least_blocks) e)))) in
      (a.0, byte_asked K a.0 a.1)

pairs-alive : (n : ℕ) (K : Language) → GoesOn K [] → GoesOn (Pairs n K) []
unfolding Pairs
pairs-alive zero K alive = alive
pairs-alive (suc n) K alive = pair_alive (Pairs n K) (pairs-alive n K alive)

pub set-alive : (K : Language) → GoesOn K [] → GoesOn (RangeSet K) []
unfolding RangeSet meets
set-alive K alive = number-alive need.Count count_exact (λ count. Pairs (count / 2) K) (λ count e l. pairs-alive (count / 2) K alive)

pairs-apart : (n : ℕ) (K : Language) → Apart K → Apart (Pairs n K)
unfolding Pairs
pairs-apart zero K a = a
pairs-apart (suc n) K a = byte-apart comma (NumberThat any (λ start. From (Pairs n K) (suc start))) refl

-- ---- the readers

module _ (stop : ℕ → Bool) (only : OnlyLf stop) (s : List ℕ) (from : ℕ) where
  abbrev At : Language → ℕ → Finding → Type 0
  At K at r = Reads K at (seen stop (drop at s)) r

  -- a comma is no stop
  past-comma : {K : Language} {at : ℕ} {r : Finding} → At K at r → Reads K at (pick (stop comma) [] (seen stop (drop at s))) r
  past-comma k = rw (only comma refl) k

  module _ (K : Language) (apart : Apart K) (f : Read (ℕ × ℕ) → Finding) (bad : (p : ℕ) → f (Err p) ≡ fault p)
      (follows : (start end next : ℕ) → from ≤ next → At K next (f (Ok ((start, end), next)))) where
    end-found : (start low : ℕ) → low ≤ largest → (i : ℕ) → from ≤ i →
        At (From K low) i (f (on_read (item_at (need.AtLeast low) s i) (λ x y. Ok ((start, x), y)) Err))
    unfolding item_at meets
    end-found start low l i o =
        byte-found stop s (λ r. f (on_read r (λ x y. Ok ((start, x), y)) Err)) comma i
        (past-comma (number-found stop only (need.AtLeast low) (least_exact low l) (λ end. K) (λ w. apart) s from
        (λ r. f (on_read r (λ x y. Ok ((start, x), y)) Err)) bad (λ end next h e m. follows start end next h) (i + 1) (omega arith)))
        (bad i)

    pair_found : (at : ℕ) → from ≤ at → At (Pair K) at (f (pair_at least_blocks s at))
    unfolding pair_at item_at meets
    pair_found at o =
        same (byte_asked K) (asked_byte K)
        (byte-found stop s whole comma at
        (past-comma (number-found stop only (need.AtMost (largest - least_blocks)) (most_exact (largest - least_blocks))
        (λ start. From K (start + least_blocks))
        (λ start. byte-apart comma (NumberThat (λ end. leb (start + least_blocks) end) (λ end. K)) refl) s from whole bad
        (λ start i h e l. end-found start (start + least_blocks) (omega (arith, leb-true start (largest - least_blocks) e)) i h) (at + 1) (omega arith)))
        (bad at))
      where
        whole : Read ℕ → Finding
        whole r = f (on_read r (λ start i. on_read (item_at (need.AtLeast (start + least_blocks)) s i) (λ x y. Ok ((start, x), y)) Err) Err)

  module _ (K : Language) (apart : Apart K) where
    pairs-found : (n : ℕ) (f : Read (List Range) → Finding) → ((p : ℕ) → f (Err p) ≡ fault p) →
        ((rs : List Range) (next : ℕ) → from ≤ next → At K next (f (Ok (rs, next)))) → (at : ℕ) → from ≤ at → At (Pairs n K) at (f (pairs_at least_blocks n s at))
    unfolding Pairs pairs_at
    pairs-found zero f bad follows at o = follows [] at o
    pairs-found (suc n) f bad follows at o =
        pair_found (Pairs n K) (pairs-apart n K apart)
        (λ r. f (on_pair r (λ start end next. follow (record { start = start; end = end }) (pairs_at least_blocks n s next)) Err)) bad
        (λ start end next h. pairs-found n (λ q. f (follow (record { start = start; end = end }) q)) bad
        (λ rs. follows (record { start = start; end = end } ∷ rs)) next h)
        at o

    -- a range set at a position, and what follows it
    pub set_found : (f : Read sets.RangeSet → Finding) → ((p : ℕ) → f (Err p) ≡ fault p) →
        ((set : sets.RangeSet) (next : ℕ) → from ≤ next → At K next (f (Ok (set, next)))) →
        (at : ℕ) → from ≤ at → At (RangeSet K) at (f (ranges_at least_blocks s at))
    unfolding ranges_at set_at summary RangeSet meets
    set_found f bad follows at o =
        number-found stop only need.Count count_exact (λ count. Pairs (count / 2) K) (λ count. pairs-apart (count / 2) K apart) s from
        (λ r. f (summary at (on_read r (λ count i. pairs_at least_blocks (count / 2) s i) Err))) bad
        (λ count next h e l. pairs-found (count / 2) (λ q. f (summary at q)) bad (λ rs. follows _) next h) at o

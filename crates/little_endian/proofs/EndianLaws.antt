-- Laws of `specs/LittleEndian.antt`: what the library reads from the bytes at a position is the number there.
-- Assumes nothing.
use mathlib.Core.Path.{◌≡◌, ◌∙◌}
use mathlib.Core.List.{List}
use Prim.Native.Nat.{ℕ, ◌+◌, ◌≤◌, ◌<◌}
use native.Mathlib.Nat.{add-zero}
use native.Mathlib.Omega.{arith}
use lib.ListN.{length, take, drop, get_or}
use lib.Seq.{get_or-take, get_or-drop}
use borrow.Author.Tests.{le-leb, lt-leb}
use Rattle.std.specs.Prelude.{Option, Some, None}
use Rattle.std.specs.Option.{MatchOption}
use Rattle.std.specs.Int.{from_le_bytes, w16, w32, w64}
use Rattle.little_endian.specs.LittleEndian.{two_at, four_at, eight_at}

module _ (s : List ℕ) (at : ℕ) where
  first : (n : ℕ) → 0 < n → get_or (take n (drop at s)) 0 0 ≡ get_or s at 0
  first n l = get_or-take n (drop at s) 0 0 l ∙ get_or-drop at s 0 0 ∙ rw add-zero

  byte : (n i : ℕ) → i < n → get_or (take n (drop at s)) i 0 ≡ get_or s (at + i) 0
  byte n i l = get_or-take n (drop at s) i 0 l ∙ get_or-drop at s i 0

  pub two_read : at + 2 ≤ length s → from_le_bytes w16 (take 2 (drop at s)) ≡ two_at s at
  unfolding two_at
  two_read h = rw (le-leb (at + 2) (length s) h) (omega (arith, first 2 (omega arith), byte 2 1 (omega arith)))

  pub four_read : at + 4 ≤ length s → from_le_bytes w32 (take 4 (drop at s)) ≡ four_at s at
  unfolding four_at
  four_read h =
      rw (le-leb (at + 4) (length s) h)
      (omega (arith, first 4 (omega arith), byte 4 1 (omega arith), byte 4 2 (omega arith), byte 4 3 (omega arith)))

  pub eight_read : at + 8 ≤ length s → from_le_bytes w64 (take 8 (drop at s)) ≡ eight_at s at
  unfolding eight_at four_at
  eight_read h =
      let five : at + 4 + 1 ≡ at + 5 = omega arith in
      let six : at + 4 + 2 ≡ at + 6 = omega arith in
      let seven : at + 4 + 3 ≡ at + 7 = omega arith in
      rw (
        le-leb (at + 8) (length s) h,
        le-leb (at + 4) (length s) (omega arith),
        le-leb (at + 4 + 4) (length s) (omega arith),
        five,
        six,
        seven,
      )
      (omega (
        arith,
        first 8 (omega arith),
        byte 8 1 (omega arith),
        byte 8 2 (omega arith),
        byte 8 3 (omega arith),
        byte 8 4 (omega arith),
        byte 8 5 (omega arith),
        byte 8 6 (omega arith),
        byte 8 7 (omega arith),
      ))

  pub two_from : (o : Option (List ℕ)) (n : ℕ)
      → MatchOption o (length s < at + 2) (λ bytes. (at + 2 ≤ length s) × (bytes ≡ take 2 (drop at s)))
      → MatchOption o (n ≡ 0) (λ bytes. n ≡ from_le_bytes w16 bytes) → n ≡ two_at s at
  unfolding two_at
  two_from (Some bytes) n h e = e ∙ rw h.1 (two_read h.0)
  two_from None n h e = rw (lt-leb (at + 2) (length s) h) e

  pub four_from : (o : Option (List ℕ)) (n : ℕ)
      → MatchOption o (length s < at + 4) (λ bytes. (at + 4 ≤ length s) × (bytes ≡ take 4 (drop at s)))
      → MatchOption o (n ≡ 0) (λ bytes. n ≡ from_le_bytes w32 bytes) → n ≡ four_at s at
  unfolding four_at
  four_from (Some bytes) n h e = e ∙ rw h.1 (four_read h.0)
  four_from None n h e = rw (lt-leb (at + 4) (length s) h) e

  pub eight_from : (o : Option (List ℕ)) (n : ℕ)
      → MatchOption o (length s < at + 8) (λ bytes. (at + 8 ≤ length s) × (bytes ≡ take 8 (drop at s)))
      → MatchOption o (n ≡ 0) (λ bytes. n ≡ from_le_bytes w64 bytes) → n ≡ eight_at s at
  unfolding eight_at
  eight_from (Some bytes) n h e = e ∙ rw h.1 (eight_read h.0)
  eight_from None n h e = rw (lt-leb (at + 8) (length s) h) e

-- A hash that is written out in hexadecimal is read back as it was.
-- Assumes nothing.
use mathlib.Core.Path.{◌≡◌, refl, ap}
use mathlib.Core.Bool.{Bool, true, false}
use mathlib.Core.List.{List, [], ◌∷◌, ◌++◌, append_assoc}
use Prim.Native.Nat.{ℕ, zero, suc, ◌+◌, ◌*◌, ◌/◌, ◌%◌, ◌<◌}
use native.Mathlib.Omega.{arith}
use lib.ListN.{length, length-append}
use lib.Seq.{get_or_at, append_snoc}
use lib.Dec.{ltb}
use borrow.Author.Tests.{ltb-true, ltb-false, lt-ltb, le-leb, lt-leb}
use Rattle.text.specs.Choice.{pick}
use Rattle.text.specs.Below.{AllBelow}
use Rattle.text.specs.Hash.{digit_of, digit_at, octet_at, octets_at, hash_bytes, hash_at}
use Rattle.text.proofs.BelowLaws.{below_head, below_tail}
use Rattle.text.specs.Hex.{hex_digit, hex_of}
use Rattle.std.specs.Prelude.{Ok, Some}

digit-read : (d : ℕ) → d < 16 → digit_of (hex_digit d) ≡ Some d
unfolding digit_of hex_digit
digit-read d h = go (ltb d 10) refl
  where
    go : (t : Bool) → ltb d 10 ≡ t → digit_of (pick t (48 + d) (87 + d)) ≡ Some d
    go true e =
        let l = ltb-true d 10 e in
        rw (le-leb 48 (48 + d) (omega arith), le-leb (48 + d) 57 (omega arith)) (ap Some (omega arith))
    go false e =
        let l = ltb-false d 10 e in
        rw (
          le-leb 48 (87 + d) (omega arith),
          lt-leb (87 + d) 57 (omega arith),
          le-leb 97 (87 + d) (omega arith),
          le-leb (87 + d) 102 (omega arith),
        )
        (ap Some (omega arith))

digit_at_lem : (before rest : List ℕ) (d n : ℕ) → d < 16 → length before ≡ n → digit_at (before ++ (hex_digit d ∷ rest)) n ≡ Some d
unfolding digit_at
digit_at_lem before rest d n h e =
    rw (
      lt-ltb n (length (before ++ (hex_digit d ∷ rest))) (simp length-append (omega arith)),
      get_or_at before (hex_digit d) rest 0 n e,
    )
    (digit-read d h)

octet_at_lem : (before rest : List ℕ) (b n : ℕ) → b < 256 → length before ≡ n →
    octet_at (before ++ (hex_digit (b / 16) ∷ hex_digit (b % 16) ∷ rest)) n ≡ Ok b
unfolding octet_at
octet_at_lem before rest b n h e =
    let high = digit_at_lem before (hex_digit (b % 16) ∷ rest) (b / 16) n (omega arith) e in
    let low : digit_at (before ++ (hex_digit (b / 16) ∷ hex_digit (b % 16) ∷ rest)) (n + 1) ≡ Some (b % 16) =
    rw (← append_snoc before (hex_digit (b / 16)) (hex_digit (b % 16) ∷ rest))
    (digit_at_lem (before ++ (hex_digit (b / 16) ∷ [])) rest (b % 16) (n + 1) (omega arith) (simp length-append (omega arith))) in
    rw (high, low) (ap Ok (omega arith))

octets_at_lem : (n : ℕ) (before bs rest : List ℕ) (at : ℕ) → length bs ≡ n → AllBelow 256 bs → length before ≡ at →
    octets_at n (before ++ (hex_of n bs ++ rest)) at ≡ Ok (bs, at + 2 * n)
unfolding octets_at hex_of
octets_at_lem zero before [] rest at w h e = ap (λ (i : ℕ). Ok ([], i)) (omega arith)
octets_at_lem zero before (b ∷ bs) rest at w h e = absurd (omega arith)
octets_at_lem (suc n) before [] rest at w h e = absurd (omega arith)
octets_at_lem (suc n) before (b ∷ bs) rest at w h e =
    let high = hex_digit (b / 16) in
    let low = hex_digit (b % 16) in
    let more : octets_at n (before ++ (high ∷ low ∷ (hex_of n bs ++ rest))) (at + 2) ≡ Ok (bs, at + 2 + 2 * n) =
    rw (← append_assoc before (high ∷ low ∷ []) (hex_of n bs ++ rest))
    (octets_at_lem n (before ++ (high ∷ low ∷ [])) bs rest (at + 2) (omega arith) (below_tail 256 b bs h) (simp length-append (omega arith))) in
    rw (octet_at_lem before (hex_of n bs ++ rest) b at (below_head 256 b bs h) e, more) (ap (λ (i : ℕ). Ok (b ∷ bs, i)) (omega arith))

-- the hash at a position of a line
pub hash-written : (before hash rest : List ℕ) (at : ℕ) → length hash ≡ hash_bytes → AllBelow 256 hash → length before ≡ at →
    hash_at (before ++ (hex_of hash_bytes hash ++ rest)) at ≡ Ok (hash, at + 2 * hash_bytes)
unfolding hash_at
hash-written before hash rest at n h e = rw (octets_at_lem hash_bytes before hash rest at n h e)

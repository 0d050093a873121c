-- FIPS 180-4, 5.1.1 in its own words: that `padded`, which goes by bytes, appends the bits that the section says.
use Rattle.std.specs.Prelude.{◌≡◌, ℕ, zero, suc, ◌+◌, ◌*◌, ◌/◌, ◌%◌, ◌^◌, ◌≤◌, List, [], ◌∷◌, ◌++◌, length, replicate, refl}
use Rattle.std.proofs.Common.{append_assoc, sym, ap, ◌∙◌, arith, length-append}
use Rattle.std.proofs.lemmas.List.{length-replicate, replicate-append-replicate}
use Rattle.sha1_digest.specs.Sha1.{bytes, zero_bytes, padded, pad}

-- the lowest n bits of x, highest first
unfoldable pub bits_of : ℕ → ℕ → List ℕ
bits_of zero x = []
bits_of (suc n) x = x / 2 ^ n % 2 ∷ bits_of n x

-- the bits of a list of bytes
unfoldable pub bits : List ℕ → List ℕ
bits [] = []
bits (x ∷ s) = bits_of 8 x ++ bits s

-- "k is the smallest, non-negative solution to the equation l + 1 + k ≡ 448 mod 512"
pub record ZeroBits (l k : ℕ) : Type 0 where
  pub solves : (l + 1 + k) % 512 ≡ 448
  pub smallest : (j : ℕ) → (l + 1 + j) % 512 ≡ 448 → k ≤ j

-- k, for a message of n bytes
abbrev pub zero_bits : ℕ → ℕ
zero_bits n = 7 + 8 * zero_bytes n

pub zero_bits_lem : (n : ℕ) → ZeroBits (8 * n) (zero_bits n)
zero_bits_lem n = record { solves = omega arith; smallest = λ j h. omega arith }

bits-append : (a b : List ℕ) → bits (a ++ b) ≡ bits a ++ bits b
unfolding bits
bits-append [] b = refl
bits-append (x ∷ a) b = ap (λ (s : List ℕ). bits_of 8 x ++ s) (bits-append a b) ∙ sym (append_assoc (bits_of 8 x) (bits a) (bits b))

bits-zeros : (n : ℕ) → bits (replicate n 0) ≡ replicate (8 * n) 0
unfolding bits bits_of
bits-zeros zero = refl
bits-zeros (suc n) =
    let e : 8 + 8 * n ≡ 8 * suc n = omega arith in
    ap (λ (s : List ℕ). replicate 8 0 ++ s) (bits-zeros n)
    ∙ replicate-append-replicate 8 (8 * n) 0
    ∙ ap (λ (k : ℕ). replicate k 0) e

-- "Append the bit “1” to the end of the message, followed by k zero bits .. Then append the 64-bit block that is equal to the number l"
pub pad-bits : (m : List ℕ) → bits (pad m) ≡ bits m ++ (1 ∷ (replicate (zero_bits (length m)) 0 ++ bits (bytes 8 (8 * length m))))
unfolding padded bits bits_of
pad-bits m =
    let z : ℕ = zero_bytes (length m) in
    let l : List ℕ = bytes 8 (8 * length m) in
    bits-append m (0x80 ∷ (replicate z 0 ++ l))
    ∙ ap (λ (s : List ℕ). bits m ++ (1 ∷ (replicate 7 0 ++ s))) (bits-append (replicate z 0) l ∙ ap (λ (s : List ℕ). s ++ bits l) (bits-zeros z))
    ∙ ap (λ (s : List ℕ). bits m ++ (1 ∷ s))
    (sym (append_assoc (replicate 7 0) (replicate (8 * z) 0) (bits l)) ∙ ap (λ (s : List ℕ). s ++ bits l) (replicate-append-replicate 7 (8 * z) 0))

pub length-bytes : (n x : ℕ) → length (bytes n x) ≡ n
unfolding bytes
length-bytes zero x = refl
length-bytes (suc n) x = ap suc (length-bytes n x)

-- "The length of the padded message should now be a multiple of 512 bits."
pub pad-whole : (m : List ℕ) → 8 * length (pad m) % 512 ≡ 0
unfolding padded
pad-whole m = simp (length-append, length-replicate, length-bytes) (omega arith)

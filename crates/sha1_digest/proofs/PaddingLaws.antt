-- Laws of the padding. Assumes nothing.
use Rattle.std.proofs.Common.{◌≡◌, ℕ, suc, ◌+◌, ◌-◌, ◌*◌, ◌/◌, ◌%◌, ◌^◌, ◌<◌, List, ◌∷◌, ◌++◌, length, get_or, take, drop, set, replicate, sym, ap, ◌∙◌, append_assoc, add-one, arith, length-append, length-drop, take-append-drop, length-take-le, drop-cons}
use lib.ListN.{length-replicate}
use lib.Seq.{set-append_seam, take-append-add}
use borrow.Rule.Slice.PartMut.{put_mid}
use Rattle.std.proofs.lemmas.List.{take-replicate, drop-replicate}
use Rattle.std.proofs.lemmas.Slice.{take-put_mid}
use Rattle.sha1_digest.specs.declared.HashValue.{HashValue}
use Rattle.sha1_digest.specs.Sha1 as S
use Rattle.sha1_digest.specs.Sha1.Padding.{length-bytes}
use Rattle.sha1_digest.proofs.WordLaws.{same_bytes}
use Rattle.sha1_digest.proofs.BlockLaws.{hash-join, hash-whole}

-- ---- a message's end and its whole blocks

pub padded-join : (a r : List ℕ) (n : ℕ) → length a % 64 ≡ 0 → S.padded (a ++ r) n ≡ a ++ S.padded r n
unfolding S.padded
padded-join a r n w =
    let e : S.zero_bytes (length (a ++ r)) ≡ S.zero_bytes (length r) = rw length-append (omega arith) in
    rw e (append_assoc a r _)

pub padded_wrap : (r : List ℕ) (n k : ℕ) → n % 2 ^ 64 ≡ k % 2 ^ 64 → S.padded r n ≡ S.padded r k
unfolding S.padded
padded_wrap r n k e = rw (same_bytes (8 * n) (8 * k) (omega arith))

-- the digest by the whole blocks, and then what is left with its padding
pub hash-padded : (h : HashValue) (m : List ℕ) (n at : ℕ) → at ≡ length m / 64 * 64
    → S.hash h (S.padded m n) ≡ S.hash (S.hash h m) (S.padded (drop at m) n)
hash-padded h m n at e =
    let l : length (take at m) ≡ at = length-take-le at m (omega arith) in
    let w : length (take at m) % 64 ≡ 0 = omega arith in
    ap (λ (s : List ℕ). S.hash h (S.padded s n)) (sym (take-append-drop at m))
    ∙ ap (S.hash h) (padded-join (take at m) (drop at m) n w)
    ∙ hash-join h (take at m) (S.padded (drop at m) n) w
    ∙ ap (λ (g : HashValue). S.hash g (S.padded (drop at m) n)) (hash-whole h m at e)

-- ---- a buffer that is written in place

-- a byte stands behind s
pub put-behind : (d s : List ℕ) (v : ℕ) → length s < length d → set (s ++ drop (length s) d) (length s) v ≡ s ++ (v ∷ drop (length s + 1) d)
put-behind d s v h =
    rw add-one
    (ap (λ (r : List ℕ). set (s ++ r) (length s) v) (drop-cons d (length s) 0 h)
    ∙ set-append_seam s (get_or d (length s) 0) (drop (suc (length s)) d) v)

-- ---- the buffer of `close`: 128 zeros, with the message's last bytes r and 0x80 at its start

abbrev pub with_rest : List ℕ → List ℕ
with_rest r = r ++ (0x80 ∷ drop (length r + 1) (replicate 128 0))

pub length-with_rest : (r : List ℕ) → length r < 64 → length (with_rest r) ≡ 128
length-with_rest r h = simp (length-append, length-drop, length-replicate) (omega arith)

module _ (r : List ℕ) (e : ℕ) (h : length r < 64) (l : e ≡ length r + 9 + S.zero_bytes (length r)) where
  take-with_rest : take (e - 8) (with_rest r) ≡ r ++ (0x80 ∷ replicate (S.zero_bytes (length r)) 0)
  take-with_rest =
      let z : ℕ = S.zero_bytes (length r) in
      let zeros : List ℕ = drop (length r + 1) (replicate 128 0) in
      let k : e - 8 ≡ length r + suc z = omega arith in
      ap (λ (k : ℕ). take k (r ++ (0x80 ∷ zeros))) k
      ∙ take-append-add r (0x80 ∷ zeros) (suc z)
      ∙ ap (λ (l : List ℕ). r ++ (0x80 ∷ l))
      (ap (take z) (drop-replicate (length r + 1) 128 0) ∙ take-replicate z (128 - (length r + 1)) 0 (omega arith))

  -- its first e bytes are the padded ones, once the length in bits modulo 2 ^ 64 stands before e
  pub take-padded : (n k : ℕ) (s : List ℕ) → s ≡ S.bytes 8 (n * 8 % 2 ^ 64) → take e (put_mid (e - 8) k (with_rest r) s) ≡ S.padded r n
  unfolding S.padded
  take-padded n k s b =
      let q : List ℕ = 0x80 ∷ replicate (S.zero_bytes (length r)) 0 in
      let d : e ≡ e - 8 + length s = omega (arith, ap length b, length-bytes 8 (n * 8 % 2 ^ 64)) in
      take-put_mid (e - 8) k (with_rest r) s e d (omega (arith, length-with_rest r h))
      ∙ ap (λ (a : List ℕ). a ++ s) take-with_rest
      ∙ ap (λ (a : List ℕ). r ++ q ++ a) (b ∙ same_bytes (n * 8 % 2 ^ 64) (8 * n) (omega arith))
      ∙ append_assoc r q (S.bytes 8 (8 * n))

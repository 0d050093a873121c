-- `text::hash::read_hash` meets its contract.
use mathlib.Core.Path.{◌≡◌, refl, sym, ap, ap₂, subst, ◌∙◌}
use Prim.Native.Nat.{ℕ, zero, suc, ◌+◌, ◌-◌, ◌<◌}
use native.Mathlib.Numerals.{add-one, sub-one}
use native.Mathlib.Omega.{arith}
use mathlib.Core.List.{List, [], ◌∷◌, ◌++◌, append-nil}
use lib.ListN.{length, take, set, length-set}
use lib.Seq.{take-suc-set, append_snoc, take_all}
use Rattle.std.proofs.Common.{rules}
use Rattle.std.specs.Prelude.{Ok, Err}
use Rattle.text.specs.Hash.{octet_at, follow, octets_at, hash_bytes, hash_at}
use Rattle.text.specs.Read.{Read}
use Rattle.text.proofs.HashLaws.{octet_inside}
use Rattle.text.proofs.hash.read_hash.Invariants.{Reading, joined}
use Rattle.text.proofs.hash.read_hash.Goals as goal

joined-none : (q : Read (List ℕ)) → joined [] q ≡ q
unfolding joined
joined-none (Ok (vs, next)) = refl
joined-none (Err p) = refl

joined-follow : (us : List ℕ) (v : ℕ) (q : Read (List ℕ)) → joined us (follow v q) ≡ joined (us ++ (v ∷ [])) q
unfolding joined
joined-follow us v (Ok (vs, next)) = ap (λ (l : List ℕ). Ok (l, next)) (sym (append_snoc us v vs))
joined-follow us v (Err p) = refl

module _ (s : List ℕ) (i n : ℕ) (us : List ℕ) where
  turn-bad : 0 < n → {p : ℕ} → octet_at s i ≡ Err p → joined us (octets_at n s i) ≡ Err p
  unfolding octets_at joined
  turn-bad h {p} e = go n h
    where
      go : (n : ℕ) → 0 < n → joined us (octets_at n s i) ≡ Err p
      go zero l = absurd (omega arith)
      go (suc n) l = rw e

  turn_more : 0 < n → {v : ℕ} → octet_at s i ≡ Ok v → joined us (octets_at n s i) ≡ joined (us ++ (v ∷ [])) (octets_at (n - 1) s (i + 2))
  unfolding octets_at
  turn_more h {v} e = go n h
    where
      go : (n : ℕ) → 0 < n → joined us (octets_at n s i) ≡ joined (us ++ (v ∷ [])) (octets_at (n - 1) s (i + 2))
      go zero l = absurd (omega arith)
      go (suc n) l = rw (e, sub-one (suc n)) (joined-follow us v (octets_at n s (i + 2)))

reading-start : (s : List ℕ) (at : ℕ) (bytes : List ℕ) → Reading s at bytes at 0
unfolding Reading
reading-start s at bytes = joined-none (octets_at hash_bytes s at)

module _ (s : List ℕ) (at : ℕ) (bytes : List ℕ) (i k : ℕ) (r : Reading s at bytes i k) where
  reading-bad : k < hash_bytes → {p : ℕ} → octet_at s i ≡ Err p → hash_at s at ≡ Err p
  unfolding Reading hash_at
  reading-bad h e = sym r ∙ turn-bad s i (hash_bytes - k) (take k bytes) (omega arith) e

  reading-more : k < hash_bytes → length bytes ≡ hash_bytes → {v : ℕ} → octet_at s i ≡ Ok v → Reading s at (set bytes k v) (i + 2) (k + 1)
  unfolding Reading
  reading-more h l {v} e =
      ap₂ (λ (us : List ℕ) (n : ℕ). joined us (octets_at n s (i + 2)))
      (ap (λ (n : ℕ). take n (set bytes k v)) (add-one k) ∙ take-suc-set bytes k v (omega arith))
      (omega arith)
      ∙ sym (turn_more s i (hash_bytes - k) (take k bytes) (omega arith) e) ∙ r

  reading-end : k ≡ hash_bytes → length bytes ≡ hash_bytes → hash_at s at ≡ Ok (bytes, i)
  unfolding Reading hash_at joined octets_at
  reading-end z l =
      sym (subst (λ (n : ℕ). joined (take n bytes) (octets_at (hash_bytes - n) s i) ≡ octets_at hash_bytes s at) z r)
      ∙ ap (λ (bs : List ℕ). Ok (bs, i)) (append-nil (take hash_bytes bytes) ∙ take_all hash_bytes bytes (omega arith))

pub loop-byte-init : goal.loop-byte-init
loop-byte-init c = (refl, reading-start _ _ _)

pub returns-in_err-byte : goal.returns-in_err-byte
returns-in_err-byte c =
    rw (reading-bad _ _ _ _ _ c.loop-byte.invariant.1 (omega arith) (sym c.octet_at.ensures ∙ c.in_err-byte.was)) (search rules)

pub overflow_add-i : goal.overflow_add-i
overflow_add-i c = omega (arith, octet_inside _ _ (sym c.octet_at.ensures ∙ c.in_ok-byte.was))

pub loop-byte-preserved : goal.loop-byte-preserved
loop-byte-preserved c =
    let l = c.loop-byte in (
      simp length-set l.invariant.0,
      reading-more _ _ _ _ _ l.invariant.1 (omega arith) l.invariant.0 (sym c.octet_at.ensures ∙ c.in_ok-byte.was),
    )

pub returns : goal.returns
returns c = sym (reading-end _ _ _ _ _ c.loop-byte.invariant.1 (omega arith) c.loop-byte.invariant.0)

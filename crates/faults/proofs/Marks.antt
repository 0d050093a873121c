-- A single character, and what follows it: the reader's answer is the first fault.
-- Assumes nothing.
use mathlib.Core.Path.{◌≡◌, refl}
use mathlib.Core.Bool.{Bool, true, false}
use mathlib.Core.Logic.{⊎_elim}
use Prim.Native.Nat.{ℕ, suc, ◌+◌}
use native.Mathlib.Numerals.{add-one}
use mathlib.Core.List.{List, [], ◌∷◌}
use lib.ListN.{length, drop, get_or, drop_of_length-le}
use lib.Seq.{drop-cons}
use lib.Dec.{ltb, eqb}
use borrow.Author.Tests.{ltb-true, ltb-false, eqb-true, eq-eqb}
use Rattle.text.specs.Choice.{pick}
use Rattle.text.specs.Expected.{stands}
use Rattle.text.proofs.ChoiceLaws.{bool, picks, both_true, both_is}
use Rattle.faults.specs.Language.{Language, Finding, fault, Byte, Or}
use Rattle.faults.proofs.LanguageLaws.{Reads, starting, Starts, or_left, or_right, byte-start, byte-other, byte_past}
use Rattle.faults.proofs.Seen.{seen}
use Rattle.faults.proofs.Numbers.{clash}

-- none of its texts starts with the byte m
abbrev pub Without : ℕ → Language → Type 0
Without m L = (t : List ℕ) → L (m ∷ t) → ⊥

pub byte-without : (c m : ℕ) (K : Language) → eqb c m ≡ false → Without c (Byte m K)
unfolding Byte
byte-without c m K e t d = clash (eq-eqb c m d.0) e

-- the character stands at a position exactly if the text from there on starts with it
module _ (stop : ℕ → Bool) (s : List ℕ) (m at : ℕ) where
  stood : stands s at m ≡ true → drop at s ≡ m ∷ drop (suc at) s
  stood e =
      let p = both_true (ltb at (length s)) (eqb (get_or s at 0) m) e in
      rw (drop-cons s at 0 (ltb-true at (length s) p.0), eqb-true (get_or s at 0) m p.1)

  stands-there : Starts (seen stop (drop at s)) m → stands s at m ≡ true
  stands-there h =
      ⊎_elim
      (λ e. both_is e (eq-eqb (get_or s at 0) m (rw (drop-cons s at 0 (ltb-true at (length s) e)) at h)))
      (λ e. absurd (rw (drop_of_length-le s (ltb-false at (length s) e)) at h))
      (bool (ltb at (length s)))

-- x is the answer where the character stands, and y where it does not; f says how the whole ends
module _ (stop : ℕ → Bool) (s : List ℕ) {A : Type 0} (f : A → Finding) (m at : ℕ) {x y : A} where
  pub byte-found : {K : Language} → Reads K (at + 1) (pick (stop m) [] (seen stop (drop (at + 1) s))) (f x) → f y ≡ fault at →
      Reads (Byte m K) at (seen stop (drop at s)) (f (pick (stands s at m) x y))
  byte-found {K} k e =
      picks (λ r. Reads (Byte m K) at (seen stop (drop at s)) (f r)) (stands s at m) x y
      (λ h. rw (stood stop s m at h) (byte_past m K refl (rw add-one at k)))
      (λ h. rw e (byte-other m K (seen stop (drop at s)) k.alive (λ z. clash (stands-there stop s m at z) h)))

  -- the character, or something else, which does not start with it
  pub or_byte-found : {K L : Language} → Without m L → Reads K (at + 1) (pick (stop m) [] (seen stop (drop (at + 1) s))) (f x) →
      Reads L at (seen stop (drop at s)) (f y) → Reads (Or (Byte m K) L) at (seen stop (drop at s)) (f (pick (stands s at m) x y))
  or_byte-found {K} {L} none k l =
      picks (λ r. Reads (Or (Byte m K) L) at (seen stop (drop at s)) (f r)) (stands s at m) x y
      (λ h. rw (stood stop s m at h) (or_left none (byte_past m K refl (rw add-one at k))))
      (λ h. or_right (starting (λ t. Byte m K t → Starts (seen stop (drop at s)) m) (λ t. Byte m K t → ⊥) (seen stop (drop at s))
      (λ t z d. clash (stands-there stop s m at (z d)) h) (byte-start m K (seen stop (drop at s)))) l)

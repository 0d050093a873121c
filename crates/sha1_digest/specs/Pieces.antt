-- SHA-1 taken piece by piece: a `Hasher` has the hash value so far and the number of bytes taken in, modulo 2 ^ 64.
-- Other crates know these definitions by the laws of proofs/DigestLaws.antt.
use Rattle.std.specs.Prelude.{◌≡◌, ℕ, ◌+◌, ◌*◌, ◌/◌, ◌%◌, ◌^◌, List, [], ◌∷◌, ◌++◌, length, refl}
use Rattle.sha1_digest.specs.declared.Hasher.{Hasher}
use Rattle.sha1_digest.specs.Sha1.{initial, hash, output, padded}

-- nothing taken in
pub started : Hasher
started = record { value = initial; count = 0 }

-- every whole block of s taken in; the bytes past the last one are left out
pub absorbed : Hasher → List ℕ → Hasher
absorbed h s = record { value = hash h.value s; count = (h.count + length s / 64 * 64) % 2 ^ 64 }

-- the digest of what was taken in
pub finished : Hasher → List ℕ
finished h = output (hash h.value (padded [] h.count))

-- s has whole blocks only
abbrev pub Whole : List ℕ → Type 0
Whole s = length s % 64 ≡ 0

-- each piece has whole blocks only
abbrev pub Wholes : List (List ℕ) → Type 0
Wholes [] = Unit
Wholes (p ∷ ps) = Whole p × Wholes ps

-- the pieces, one after the other
abbrev pub joined : List (List ℕ) → List ℕ
joined [] = []
joined (p ∷ ps) = p ++ joined ps

pub started-is : started ≡ record { value = initial; count = 0 }
unfolding started
started-is = refl

pub absorbed-is : (h : Hasher) (s : List ℕ) → absorbed h s ≡ record { value = hash h.value s; count = (h.count + length s / 64 * 64) % 2 ^ 64 }
unfolding absorbed
absorbed-is h s = refl

pub finished-is : (h : Hasher) → finished h ≡ output (hash h.value (padded [] h.count))
unfolding finished
finished-is h = refl

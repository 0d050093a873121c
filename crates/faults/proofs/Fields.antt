-- Fields of a line, each with what follows it, in the shape of the readers' own definitions: where what follows is found so, the whole is.
-- Assumes nothing.
use mathlib.Core.Path.{◌≡◌, refl}
use mathlib.Core.Bool.{false}
use Prim.Native.Nat.{ℕ, ◌+◌, ◌≤◌}
use native.Mathlib.Omega.{arith}
use mathlib.Core.List.{List, []}
use Rattle.text.specs.Expected.{expected_at, space, lf}
use Rattle.text.specs.Number.{meets, number_at}
use Rattle.text.specs.declared.number.Need.TheVariants as need
use Rattle.text.specs.Hash.{hash_at}
use Rattle.ranges.specs.Ranges.{least_blocks, ranges_at}
use Rattle.ranges.specs.declared.RangeSet as sets
use Rattle.command.specs.Fields as field
use Rattle.command.specs.Fields.{number_field, hash_field, set_field}
use Rattle.faults.specs.Language.{Language, Finding, good, fault, End, Byte, Or}
use Rattle.faults.specs.Lines as lines
use Rattle.faults.specs.Lines.{RangeSet, LineEnd, Hash, LastSet}
use Rattle.faults.proofs.LanguageLaws.{Reads}
use Rattle.faults.proofs.Seen.{is_lf, At}
use Rattle.faults.proofs.Numbers.{number-found}
use Rattle.faults.proofs.Needs.{any_exact}
use Rattle.faults.proofs.Marks.{Without, byte-found, or_byte-found}
use Rattle.faults.proofs.Sets.{Apart, byte-apart, set_found}
use Rattle.faults.proofs.Hashes.{hash-found}
use Rattle.std.specs.Prelude.{Err}
use Rattle.text.specs.Read.{Read, on_read, on_result}

-- how the reading of the whole line ends, by the answer that was come to; `bad` is the answer at a fault
pub record Ending (A : Type 0) : Type 0 where
  pub of : A → Finding
  pub bad : ℕ → A
  pub is : (p : ℕ) → of (bad p) ≡ fault p

module _ {A : Type 0} (e : Ending A) where
  -- .. after something that is read
  abbrev pub after_read : {B : Type 0} → (B → ℕ → A) → Ending (Read B)
  after_read g = record { of = λ r. e.of (on_read r g e.bad); bad = Err; is = e.is }

pub end-apart : Apart LineEnd
end-apart = byte-apart lf End refl

module _ (l : List ℕ) {A : Type 0} (e : Ending A) where
  -- the line's end
  ended : {at : ℕ} {r : Finding} → r ≡ good → Reads End at [] r
  unfolding End
  ended h = rw h (record { alive = ([], tt); found = tt })

  pub end-then : {at : ℕ} (g : ℕ → A) → ((next : ℕ) → e.of (g next) ≡ good) →
      At l LineEnd at (e.of (on_result (expected_at l at lf) g e.bad))
  unfolding expected_at
  end-then {at} g fine = byte-found is_lf l (λ r. e.of (on_result r g e.bad)) lf at (ended (fine (at + 1))) (e.is at)

  -- .. or something else
  pub or_end-then : {L : Language} {at : ℕ} (g b : ℕ → A) → Without lf L → ((next : ℕ) → e.of (g next) ≡ good) → At l L at (e.of (b at)) →
      At l (Or LineEnd L) at (e.of (on_result (expected_at l at lf) g b))
  unfolding expected_at
  or_end-then {at} g b none fine x = or_byte-found is_lf l (λ r. e.of (on_result r g b)) lf at none (ended (fine (at + 1))) x

  -- another character
  pub mark-then : (m : ℕ) {K : Language} {at : ℕ} (g : ℕ → A) → is_lf m ≡ false → At l K (at + 1) (e.of (g (at + 1))) →
      At l (Byte m K) at (e.of (on_result (expected_at l at m) g e.bad))
  unfolding expected_at
  mark-then m {at} g n x = byte-found is_lf l (λ r. e.of (on_result r g e.bad)) m at (rw n x) (e.is at)

  -- .. or something else
  pub or_mark-then : (m : ℕ) {K L : Language} {at : ℕ} (g b : ℕ → A) → is_lf m ≡ false → Without m L → At l K (at + 1) (e.of (g (at + 1))) →
      At l L at (e.of (b at)) → At l (Or (Byte m K) L) at (e.of (on_result (expected_at l at m) g b))
  unfolding expected_at
  or_mark-then m {at} g b n none x y = or_byte-found is_lf l (λ r. e.of (on_result r g b)) m at none (rw n x) y

  pub number-then : {K : Language} {at : ℕ} (g : ℕ → ℕ → A) → Apart K → ((v next : ℕ) → at ≤ next → At l K next (e.of (g v next))) →
      At l (lines.Number K) at (e.of (on_read (number_at l at) g e.bad))
  unfolding meets
  number-then {K} {at} g apart x =
      number-found is_lf (λ b n. n) need.Any any_exact (λ v. K) (λ v. apart) l at (λ r. e.of (on_read r g e.bad)) e.is
      (λ v next h n m. x v next h) at (omega arith)

  pub set_then : {K : Language} {at : ℕ} (g : sets.RangeSet → ℕ → A) → Apart K →
      ((set : sets.RangeSet) (next : ℕ) → at ≤ next → At l K next (e.of (g set next))) →
      At l (RangeSet K) at (e.of (on_read (ranges_at least_blocks l at) g e.bad))
  set_then {K} {at} g apart x = set_found is_lf (λ b n. n) l at K apart (λ r. e.of (on_read r g e.bad)) e.is x at (omega arith)

  pub hash-then : {K : Language} {at : ℕ} (g : List ℕ → ℕ → A) → ((hash : List ℕ) (next : ℕ) → at ≤ next → At l K next (e.of (g hash next))) →
      At l (Hash K) at (e.of (on_read (hash_at l at) g e.bad))
  hash-then g x = hash-found l e.of g e.bad x e.is

-- ---- the same with the space before them

module _ (l : List ℕ) {A : Type 0} (e : Ending A) where
  pub space-then : {K : Language} {at : ℕ} (g : ℕ → A) → ((next : ℕ) → At l K next (e.of (g next))) →
      At l (Byte space K) at (e.of (on_result (expected_at l at space) g e.bad))
  space-then {at} g x = mark-then l e space g refl (x (at + 1))

module _ (l : List ℕ) {A : Type 0} (e : Ending A) where
  pub number_field_lem : {K : Language} {at : ℕ} (g : ℕ → ℕ → A) → Apart K → ((v next : ℕ) → At l K next (e.of (g v next))) →
      At l (Byte space (lines.Number K)) at (e.of (on_read (number_field l at) g e.bad))
  unfolding number_field
  number_field_lem g apart x = space-then l (after_read e g) (number_at l) (λ i. number-then l e g apart (λ v next h. x v next))

  pub set_field_lem : {K : Language} {at : ℕ} (g : sets.RangeSet → ℕ → A) → Apart K →
      ((set : sets.RangeSet) (next : ℕ) → At l K next (e.of (g set next))) →
      At l (Byte space (RangeSet K)) at (e.of (on_read (set_field least_blocks l at) g e.bad))
  unfolding set_field
  set_field_lem g apart x = space-then l (after_read e g) (ranges_at least_blocks l) (λ i. set_then l e g apart (λ set next h. x set next))

  pub hash_field_lem : {K : Language} {at : ℕ} (g : List ℕ → ℕ → A) → ((hash : List ℕ) (next : ℕ) → At l K next (e.of (g hash next))) →
      At l (lines.Hashed K) at (e.of (on_read (hash_field l at) g e.bad))
  unfolding hash_field
  hash_field_lem g x = space-then l (after_read e g) (hash_at l) (λ i. hash-then l e g (λ hash next h. x hash next))

-- a set and the line's end
pub last_set_lem : (l : List ℕ) {A : Type 0} (e : Ending A) {at : ℕ} (g : sets.RangeSet → ℕ → A) →
    ((set : sets.RangeSet) (next : ℕ) → e.of (g set next) ≡ good) → At l LastSet at (e.of (on_read (field.last_set least_blocks l at) g e.bad))
unfolding field.last_set LastSet
last_set_lem l e g fine = set_field_lem l (after_read e g) _ end-apart (λ set i. end-then l (after_read e g) _ (fine set))

-- One P or more: a P, and then the line's end or one P or more. So the reader's answer is the first fault.
-- Assumes nothing.
use mathlib.Core.Path.{◌≡◌, refl}
use mathlib.Core.Bool.{Bool}
use mathlib.Core.Logic.{inl, inr, ⊎_elim}
use Prim.Native.Nat.{ℕ, zero, suc, ◌+◌, ◌-◌, ◌/◌, ◌≤◌}
use native.Mathlib.Omega.{arith}
use mathlib.Core.List.{List, [], ◌∷◌}
use lib.ListN.{length, drop_of_length-le}
use lib.Dec.{ltb}
use Rattle.text.specs.Expected.{space, lf, comma, colon}
use Rattle.text.specs.Number.{is_count}
use Rattle.text.specs.Hash.{hash_bytes, no_hash}
use Rattle.text.specs.Read.{on_option, on_result}
use Rattle.ranges.specs.Ranges.{least_blocks}
use Rattle.command.specs.Parts.{part_end, places_from, bad_part, part_at, parts_in, parts_at, parts_field}
use Rattle.command.specs.declared.parts.Part as parts
use Rattle.command.specs.declared.parts.BadPart.{BadPart}
use Rattle.faults.specs.Language.{Language, GoesOn, Finding, good, End, Byte, Or}
use Rattle.faults.specs.Lines.{NumberThat, any, HexDigit, Octets, Hash, Pair, Pairs, RangeSet, LineEnd, Part, PartsOf, Parts}
use Rattle.faults.proofs.LanguageLaws.{fault_here_lem, same, byte-alive}
use Rattle.faults.proofs.Numbers.{written_of, digits_of}
use Rattle.faults.proofs.Seen.{At}
use Rattle.faults.proofs.Marks.{byte-without}
use Rattle.faults.proofs.Sets.{Apart, byte-apart, set-alive}
use Rattle.faults.proofs.Hashes.{octets_alive}
use Rattle.faults.proofs.Fields.{Ending, end-apart, or_end-then, mark-then, space-then, set_then, hash-then}
use Rattle.std.specs.Prelude.{Result, Ok, Err}

-- ---- what follows a field can be taken out, and replaced by anything else

abbrev Field : (Language → Language) → Type 1
Field F = (K : Language) (s : List ℕ) → F K s → (t : List ℕ) × K t × ((L : Language) → L t → F L s)

then_field : (F G : Language → Language) → Field F → Field G → Field (λ K. F (G K))
then_field F G f g K s d =
    let x = f (G K) s d in
    let y = g K x.0 x.1 in
    (y.0, y.1, λ L l. x.2 (G L) (y.2 L l))

byte_field : (m : ℕ) → Field (Byte m)
unfolding Byte
byte_field m K [] d = absurd d
byte_field m K (b ∷ s) d = (s, d.1, λ L l. (d.0, l))

digit_field : Field HexDigit
unfolding HexDigit
digit_field K [] d = absurd d
digit_field K (b ∷ s) d = (s, d.1, λ L l. (d.0, l))

octets_field : (n : ℕ) → Field (Octets n)
unfolding Octets
octets_field zero K s d = (s, d, λ L l. l)
octets_field (suc n) K s d =
    then_field HexDigit (λ K. HexDigit (Octets n K)) digit_field (then_field HexDigit (Octets n) digit_field (octets_field n)) K s d

-- a number: what follows may depend on its value
number_field_lem : (test : ℕ → Bool) (K : ℕ → Language) (s : List ℕ) → NumberThat test K s →
    (v : ℕ) × (t : List ℕ) × K v t × ((L : ℕ → Language) → L v t → NumberThat test L s)
unfolding NumberThat
number_field_lem test K [] d = absurd d
number_field_lem test K (b ∷ s) d =
    let x = written_of test K (b - 48) s d.1 in (x.0, x.1, x.4, λ L l. (d.0, digits_of test L x.2 x.3 l))

pair_field : Field Pair
pair_field K s d =
    let a = byte_field comma _ s d in
    let b = number_field_lem any _ a.0 a.1 in
    let c = byte_field comma _ b.1 b.2 in
    let e = number_field_lem (λ end. ltb b.0 end) _ c.0 c.1 in
    (e.1, e.2, λ L l. a.2 _ (b.3 _ (c.2 _ (e.3 (λ end. L) l))))

pairs_field : (n : ℕ) → Field (Pairs n)
unfolding Pairs
pairs_field zero K s d = (s, d, λ L l. l)
pairs_field (suc n) K s d = then_field Pair (Pairs n) pair_field (pairs_field n) K s d

set_field_lem : Field RangeSet
unfolding RangeSet
set_field_lem K s d =
    let a = number_field_lem is_count (λ count. Pairs (count / 2) K) s d in
    let b = pairs_field (a.0 / 2) K a.1 a.2 in
    (b.0, b.1, λ L l. a.3 (λ count. Pairs (count / 2) L) (b.2 L l))

part_field : Field Part
part_field =
    then_field Hash (λ K. Byte colon (RangeSet K)) (octets_field hash_bytes) (then_field (Byte colon) RangeSet (byte_field colon) set_field_lem)

-- ---- one P or more

-- what follows a P
abbrev AfterPart : Language
AfterPart = Or LineEnd (Byte space Parts)

parts_made : (s : List ℕ) → Part AfterPart s → Parts s
unfolding Parts PartsOf
parts_made s d =
    let x = part_field AfterPart s d in
    ⊎_elim
    (λ e. (1, x.2 (Or LineEnd (Byte space (PartsOf 0))) (inl e)))
    (λ e. let y = byte_field space Parts x.0 e in
    (suc y.1.0, x.2 (Or LineEnd (Byte space (PartsOf y.1.0))) (inr (y.2 (PartsOf y.1.0) y.1.1))))
    x.1

parts_split : (s : List ℕ) → Parts s → Part AfterPart s
unfolding Parts PartsOf
parts_split s (zero, d) = absurd d
parts_split s (suc n, d) =
    let x = part_field (Or LineEnd (Byte space (PartsOf n))) s d in
    x.2 AfterPart (⊎_elim (λ e. inl e) (λ e. let y = byte_field space (PartsOf n) x.0 e in inr (y.2 Parts (n, y.1))) x.1)

after-apart : Apart AfterPart
after-apart b t e = ⊎_elim (end-apart b t e) (byte-apart space Parts refl b t e)

after-alive : GoesOn AfterPart []
unfolding Byte End
after-alive = (lf ∷ [], inl (refl, tt))

parts_alive : GoesOn Parts []
parts_alive =
    let a = octets_alive hash_bytes (Byte colon (RangeSet AfterPart)) (byte-alive colon (RangeSet AfterPart) (set-alive AfterPart after-alive)) in
    (a.0, parts_made a.0 a.1)

parts_some : Parts [] → ⊥
unfolding Octets HexDigit
parts_some d = parts_split [] d

-- ---- the readers

module _ (l : List ℕ) {A : Type 0} (e : Ending A) (g : ℕ → A) (first : ℕ) (fine : e.of (g first) ≡ good) where
  abbrev whole : Result ℕ ℕ → Finding
  whole r = e.of (on_result r g e.bad)

  abbrev after_part : ℕ → Ending (Result parts.Part BadPart)
  after_part n =
      record {
        of = λ r. whole (on_result r (λ p. on_option p.next (parts_in least_blocks n l first) (Ok first)) (λ bad. Err bad.at));
        bad = bad_part no_hash;
        is = e.is;
      }

  -- .. where its hash was read
  abbrev after_places : ℕ → List ℕ → Ending (Result parts.Part ℕ)
  after_places n hash =
      record {
        of = λ r. (after_part n).of (on_result r Ok (bad_part hash));
        bad = Err;
        is = e.is;
      }

  parts_found : (n at : ℕ) → length l ≤ n + at → At l Parts at (whole (parts_in least_blocks n l first at))
  unfolding parts_in part_at places_from part_end
  parts_found zero at h =
      rw (drop_of_length-le l (let k : length l ≤ at = omega arith in k), e.is at) (fault_here_lem [] parts_alive parts_some)
  parts_found (suc n) at h =
      same parts_made parts_split
      (hash-then l (after_part n) _
      (λ hash i hi. mark-then l (after_places n hash) colon _ refl
      (set_then l (after_places n hash) _ after-apart
      (λ places k hk. or_end-then l (after_places n hash) _ _ (byte-without lf space Parts refl) (λ next. fine)
      (mark-then l (after_places n hash) space _ refl
      (parts_found n (k + 1) (omega arith)))))))

-- a space and one P or more, to the line's end
pub parts_field_lem : (l : List ℕ) {A : Type 0} (e : Ending A) {at : ℕ} (g : ℕ → A) → ((first : ℕ) → e.of (g first) ≡ good) →
    At l (Byte space Parts) at (e.of (on_result (parts_field least_blocks l at) g e.bad))
unfolding parts_field parts_at
parts_field_lem l e g fine =
    space-then l (record { of = λ r. e.of (on_result r g e.bad); bad = Err; is = e.is }) (parts_at least_blocks l)
    (λ i. parts_found l e g i (fine i) (suc (length l)) i (omega arith))

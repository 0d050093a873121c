-- The Ps of a line by the two readings: good in both where no place's range is empty.
-- Assumes nothing.
use mathlib.Core.Path.{◌≡◌, refl, subst}
use mathlib.Core.Bool.{Bool, true, false}
use Prim.Native.Nat.{ℕ, zero, suc}
use mathlib.Core.List.{List, [], ◌∷◌}
use lib.ListN.{length}
use Rattle.text.specs.Choice.{either}
use Rattle.text.specs.Expected.{expected_at, colon, space, lf}
use Rattle.text.specs.Hash.{no_hash, hash_at}
use Rattle.ranges.specs.Ranges.{least_blocks, ranges_at}
use Rattle.ranges.specs.declared.RangeSet.{RangeSet}
use Rattle.command.specs.Parts.{part_end, places_from, bad_part, part_at, parts_in, parts_at, StashUse, uses_in, uses_at}
use Rattle.command.specs.declared.parts.Part.{Part}
use Rattle.command.specs.declared.parts.BadPart.{BadPart}
use Rattle.compatibility.specs.EmptyRanges.{least_before, empty_in_set, empty_in_uses}
use Rattle.compatibility.proofs.Sets.{RangesTold, ranges-told}
use Rattle.std.specs.Prelude.{Option, Some, None, Result, Ok, Err}
use Rattle.text.specs.Read.{Read, on_read, on_result, on_option}

-- ---- one P

abbrev PartTold : {E : Type 0} → List ℕ → Result Part E → Result Part E → Type 0
PartTold l (Ok x) (Ok y) = (x.next ≡ y.next) × (empty_in_set l x.places ≡ false)
PartTold l (Ok x) (Err p) = empty_in_set l x.places ≡ true
PartTold l (Err q) (Ok y) = ⊥
PartTold l (Err q) (Err p) = Unit {0}

module _ (l hash : List ℕ) where
  abbrev end : RangeSet → Result ℕ ℕ → Result ℕ ℕ → Result Part ℕ
  end places x y =
      on_result x (λ next. Ok (record { hash = hash; places = places; next = None; end = next }))
      (λ p. on_result y (λ next. Ok (record { hash = hash; places = places; next = Some next; end = next })) Err)

  -- the same places, and what follows them
  end_same : (places : RangeSet) (i : ℕ) → empty_in_set l places ≡ false → PartTold l (part_end l hash places i) (part_end l hash places i)
  unfolding part_end
  end_same places i e = go (expected_at l i lf) (expected_at l i space)
    where
      go : (x y : Result ℕ ℕ) → PartTold l (end places x y) (end places x y)
      go (Ok next) y = (refl, e)
      go (Err p) (Ok next) = (refl, e)
      go (Err p) (Err q) = tt

  end_empty : (places : RangeSet) (i p : ℕ) → empty_in_set l places ≡ true → PartTold l (part_end l hash places i) (Err p)
  unfolding part_end
  end_empty places i p e = go (expected_at l i lf) (expected_at l i space)
    where
      go : (x y : Result ℕ ℕ) → PartTold l (end places x y) (Err p)
      go (Ok next) y = e
      go (Err q) (Ok next) = e
      go (Err q) (Err r) = tt

  places-told : (at : ℕ) → PartTold l (places_from least_before l hash at) (places_from least_blocks l hash at)
  unfolding places_from
  places-told at = go (expected_at l at colon)
    where
      sets : (x y : Read RangeSet) → RangesTold l x y → PartTold l (on_read x (part_end l hash) Err) (on_read y (part_end l hash) Err)
      sets (Ok (a, n)) (Ok (b, m)) h =
          subst (λ b. PartTold l (part_end l hash a n) (part_end l hash b m)) h.0
          (subst (λ m. PartTold l (part_end l hash a n) (part_end l hash a m)) h.1 (end_same a n h.2))
      sets (Ok (a, n)) (Err p) h = end_empty a n p h
      sets (Err q) (Ok (b, m)) h = absurd h
      sets (Err q) (Err p) h = tt

      go : (x : Result ℕ ℕ) →
          PartTold l (on_result x (λ i. on_read (ranges_at least_before l i) (part_end l hash) Err) Err)
          (on_result x (λ i. on_read (ranges_at least_blocks l i) (part_end l hash) Err) Err)
      go (Ok i) = sets (ranges_at least_before l i) (ranges_at least_blocks l i) (ranges-told l i)
      go (Err p) = tt

part_told : (l : List ℕ) (at : ℕ) → PartTold l (part_at least_before l at) (part_at least_blocks l at)
unfolding part_at
part_told l at = go (hash_at l at)
  where
    beside : (hash : List ℕ) (x y : Result Part ℕ) → PartTold l x y → PartTold l (on_result x Ok (bad_part hash)) (on_result y Ok (bad_part hash))
    beside hash (Ok a) (Ok b) h = h
    beside hash (Ok a) (Err p) h = h
    beside hash (Err q) (Ok b) h = h
    beside hash (Err q) (Err p) h = h

    read : ℕ → Read (List ℕ) → Result Part BadPart
    read least x = on_read x (λ hash i. on_result (places_from least l hash i) Ok (bad_part hash)) (bad_part no_hash)

    go : (x : Read (List ℕ)) → PartTold l (read least_before x) (read least_blocks x)
    go (Ok (hash, i)) = beside hash (places_from least_before l hash i) (places_from least_blocks l hash i) (places-told l hash i)
    go (Err p) = tt

-- ---- the Ps to the line's end

-- where Ps are good in both, they stand at `first` and no range of theirs is empty; where they no longer are, one is
abbrev pub PartsTold : ℕ → Bool → Result ℕ ℕ → Result ℕ ℕ → Type 0
PartsTold first empty (Ok x) (Ok y) = (x ≡ first) × (y ≡ first) × (empty ≡ false)
PartsTold first empty (Ok x) (Err p) = (x ≡ first) × (empty ≡ true)
PartsTold first empty (Err q) (Ok y) = ⊥
PartsTold first empty (Err q) (Err p) = Unit {0}

module _ (l : List ℕ) (first : ℕ) where
  -- .. of n of them at most
  abbrev InTold : ℕ → ℕ → Type 0
  InTold n at = PartsTold first (empty_in_uses l (uses_in n l at)) (parts_in least_before n l first at) (parts_in least_blocks n l first at)

  -- behind a P without an empty range
  behind : (e t : Bool) (x y : Result ℕ ℕ) → e ≡ false → PartsTold first t x y → PartsTold first (either e t) x y
  behind e t x y f h = rw f h

  -- a P with one spoils those behind it
  spoilt : (e t : Bool) (p : ℕ) (x y : Result ℕ ℕ) → e ≡ true → PartsTold first t x y → PartsTold first (either e t) x (Err p)
  spoilt e t p (Ok f) (Ok g) h k = (k.0, rw h)
  spoilt e t p (Ok f) (Err q) h k = (k.0, rw h)
  spoilt e t p (Err q) y h k = tt

  in_told : (n at : ℕ) → InTold n at
  unfolding uses_in parts_in empty_in_uses
  in_told zero at = tt
  in_told (suc n) at = go (part_at least_before l at) (part_at least_blocks l at) (part_told l at) (in_told n)
    where
      uses : Result Part BadPart → List StashUse
      uses x = on_result x (λ part. record { hash = part.hash; places = part.places } ∷ on_option part.next (uses_in n l) []) (λ p. [])

      after : ℕ → Option ℕ → Result ℕ ℕ
      after least m = on_option m (parts_in least n l first) (Ok first)

      rest : ℕ → Result Part BadPart → Result ℕ ℕ
      rest least x = on_result x (λ part. after least part.next) (λ bad. Err bad.at)

      empty : Bool → Option ℕ → Bool
      empty e m = either e (empty_in_uses l (on_option m (uses_in n l) []))

      same : (e : Bool) (m : Option ℕ) → e ≡ false → ((at : ℕ) → InTold n at) → PartsTold first (empty e m) (after least_before m) (after least_blocks m)
      same e (Some i) h next = behind e (empty_in_uses l (uses_in n l i)) (parts_in least_before n l first i) (parts_in least_blocks n l first i) h (next i)
      same e None h next = (refl, refl, rw h)

      lost : (e : Bool) (m : Option ℕ) (p : ℕ) → e ≡ true → ((at : ℕ) → InTold n at) → PartsTold first (empty e m) (after least_before m) (Err p)
      lost e (Some i) p h next = spoilt e (empty_in_uses l (uses_in n l i)) p (parts_in least_before n l first i) (parts_in least_blocks n l first i) h (next i)
      lost e None p h next = (refl, rw h)

      go : (x y : Result Part BadPart) → PartTold l x y → ((at : ℕ) → InTold n at) →
          PartsTold first (empty_in_uses l (uses x)) (rest least_before x) (rest least_blocks y)
      go (Ok x) (Ok y) h next =
          subst (λ m. PartsTold first (empty_in_uses l (uses (Ok x))) (rest least_before (Ok x)) (after least_blocks m)) h.0
          (same (empty_in_set l x.places) x.next h.1 next)
      go (Ok x) (Err p) h next = lost (empty_in_set l x.places) x.next p.at h next
      go (Err q) (Ok y) h next = absurd h
      go (Err q) (Err p) h next = tt

pub parts_told : (l : List ℕ) (at : ℕ) → PartsTold at (empty_in_uses l (uses_at l at)) (parts_at least_before l at) (parts_at least_blocks l at)
unfolding uses_at parts_at
parts_told l at = in_told l at (suc (length l)) at

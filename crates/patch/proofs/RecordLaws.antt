-- Laws of `specs/Record.antt`: a record by its tests, and what one that was read keeps to.
-- Assumes nothing.
use Rattle.std.proofs.Common.{◌≡◌, ℕ, zero, suc, ◌+◌, ◌<◌, ◌≤◌, Bool, true, false, List, [], ◌∷◌, length, get_or, refl, ap, subst, arith, eq-eqb, ne_eqb, le-leb, leb-true}
use borrow.Author.Tests.{lt-leb}
use Rattle.text.specs.Choice.{pick, both, no}
use Rattle.text.proofs.ChoiceLaws.{both_true}
use Rattle.patch.specs.Signed.{sign_bit}
use Rattle.patch.specs.Position.{last_position, moved, can_move}
use Rattle.patch.specs.Record.{record_header_bytes, record_mark, mark_at, add_at, extra_at, seek_at, record_from, record_tests, all, record_at}
use Rattle.patch.specs.declared.records.Record.{Record}
use Rattle.patch.proofs.PositionLaws.{moved-within}
use Rattle.std.specs.Prelude.{Some, None}

-- ---- tests, the first of which is test 0

one_fails : (tests : List Bool) (i : ℕ) → get_or tests i true ≡ false → all tests ≡ false
one_fails [] i e = e
one_fails (test ∷ tests) zero e = rw e
one_fails (test ∷ tests) (suc i) e = rw (one_fails tests i e) (go test)
  where
    go : (t : Bool) → both t false ≡ false
    go true = refl
    go false = refl

each_holds : (tests : List Bool) → all tests ≡ true → (i : ℕ) → get_or tests i true ≡ true
each_holds [] e i = refl
each_holds (test ∷ tests) e zero = (both_true test (all tests) e).0
each_holds (test ∷ tests) e (suc i) = each_holds tests (both_true test (all tests) e).1 i

-- ---- the record at a byte of the patch

module _ (patch : List ℕ) (at position : ℕ) where
  bad : (i : ℕ) → get_or (record_tests patch at position) i true ≡ false → None ≡ record_at patch at position
  unfolding record_at
  bad i e = rw (one_fails (record_tests patch at position) i e)

  pub no_header : length patch < at + record_header_bytes → None ≡ record_at patch at position
  no_header h = bad 0 (lt-leb _ _ h)

  pub other-mark : (mark_at patch at ≡ record_mark → ⊥) → None ≡ record_at patch at position
  other-mark n = bad 1 (ne_eqb _ _ n)

  pub negative_add : sign_bit ≤ add_at patch at → None ≡ record_at patch at position
  negative_add h = bad 2 (ap no (le-leb _ _ h))

  pub negative_extra : sign_bit ≤ extra_at patch at → None ≡ record_at patch at position
  negative_extra h = bad 3 (ap no (le-leb _ _ h))

  pub minus-zero : seek_at patch at ≡ sign_bit → None ≡ record_at patch at position
  minus-zero e = bad 4 (ap no (eq-eqb _ _ e))

  pub cut_short : length patch < (record_from patch at position).end → None ≡ record_at patch at position
  cut_short h = bad 5 (lt-leb _ _ h)

  pub too_far : can_move position (add_at patch at) ≡ false → None ≡ record_at patch at position
  too_far e = bad 6 e

  pub seek_too_far : can_move (moved position (add_at patch at)) (seek_at patch at) ≡ false → None ≡ record_at patch at position
  seek_too_far e = bad 7 e

  pub good : at + record_header_bytes ≤ length patch → mark_at patch at ≡ record_mark →
      add_at patch at < sign_bit → extra_at patch at < sign_bit → (seek_at patch at ≡ sign_bit → ⊥) → (record_from patch at position).end ≤ length patch →
      can_move position (add_at patch at) ≡ true → can_move (moved position (add_at patch at)) (seek_at patch at) ≡ true →
      Some (record_from patch at position) ≡ record_at patch at position
  unfolding record_at
  good header mark add extra seek end on to =
      rw (
        le-leb (at + record_header_bytes) (length patch) header,
        eq-eqb (mark_at patch at) record_mark mark,
        lt-leb sign_bit (add_at patch at) add,
        lt-leb sign_bit (extra_at patch at) extra,
        ne_eqb (seek_at patch at) sign_bit seek,
        le-leb (record_from patch at position).end (length patch) end,
        on,
        to,
      )

-- ---- a record that was read

-- it lies in the patch, and the position after it within the bounds
pub record Within (patch : List ℕ) (at : ℕ) (r : Record) : Type 0 where
  pub adds : r.adds ≡ at + record_header_bytes
  pub extras : r.adds ≤ r.extras
  pub end : r.extras ≤ r.end
  pub inside : r.end ≤ length patch
  pub next : r.next ≤ last_position

pub record_within : (patch : List ℕ) (at position : ℕ) {r : Record} → position ≤ last_position → record_at patch at position ≡ Some r → Within patch at r
unfolding record_at
record_within patch at position {r} h e = go (all (record_tests patch at position)) refl e
  where
    go : (t : Bool) → all (record_tests patch at position) ≡ t → pick t (Some (record_from patch at position)) None ≡ Some r → Within patch at r
    go true a f =
        let same : record_from patch at position ≡ r = cc in
        let holds = each_holds (record_tests patch at position) a in
        let middle : moved position (add_at patch at) ≤ last_position = moved-within position (add_at patch at) h (holds 6) in
        subst (Within patch at) same
        (record {
          adds = refl;
          extras = omega arith;
          end = omega arith;
          inside = leb-true _ _ (holds 5);
          next = moved-within (moved position (add_at patch at)) (seek_at patch at) middle (holds 7);
        })
    go false a f = absurd (let z : ◌≡◌ {A = ℕ} 0 1 = cc in omega arith)

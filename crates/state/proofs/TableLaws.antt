-- Laws of the table of stashes: the stashes that it holds, whole tables, and both after one stash is held or released.
-- Assumes nothing.
use mathlib.Core.Path.{◌≡◌, refl, sym, ap, ◌∙◌}
use mathlib.Core.Bool.{true, false}
use mathlib.Core.Logic.{⊎_elim}
use mathlib.Core.List.{List, [], ◌∷◌, ◌++◌}
use Prim.Native.Nat.{ℕ, ◌+◌, ◌-◌, ◌*◌, ◌≤◌, ◌<◌, min}
use native.Mathlib.Nat.{zero-add}
use native.Mathlib.Omega.{arith}
use borrow.Author.Tests.{lt-ltb, le-ltb, le-leb, lt-leb, ltb-true, ltb-false}
use lib.Dec.{eqb, ltb, leb}
use Rattle.std.specs.List.{list_any}
use lib.ListN.{length, take, drop, get_or, set, length-drop, length-set, length-replicate}
use lib.Seq.{paste, length-paste, take_all}
use Rattle.std.specs.Prelude.{Option, Some, None}
use Rattle.std.proofs.lemmas.Slice.{put_mid-paste}
use Rattle.text.specs.Choice.{both}
use Rattle.text.specs.Hash.{hash_bytes}
use Rattle.text.proofs.ChoiceLaws.{picks, both_true, bool}
use Rattle.state.specs.Limits.{most_stashes, table_bytes}
use Rattle.state.specs.Stashes.{Whole, Table, table_at, empty_table, entries, held_in, find_in, held_twice, holds_empty, size_at, blocks_held, without, holding, releasing}
use Rattle.state.specs.Sums.{bound, bounded}
use Rattle.state.proofs.EntryLaws.{find_here, find_on, find_end, again_here, again_on, again_end, twice_here, twice_on, twice_end}
use Rattle.state.proofs.EntryLaws.{later, empty_entries, length-entries, size-entries, entries-more, entries-less}
use Rattle.state.proofs.StashLaws.{size_past, blocks_held-next, without-past}

-- ---- the stashes held

-- looked on from the first entry
pub find_first : (t : Table) (hash : List ℕ)
    → find_in (held_in t) hash ≡ later 0 (find_in (entries t.hashes t.sizes 0 (min t.count most_stashes - 0)) hash)
unfolding held_in
find_first t hash =
    let e : min t.count most_stashes - 0 ≡ min t.count most_stashes = omega arith in
    rw e (go (find_in (entries t.hashes t.sizes 0 (min t.count most_stashes)) hash))
  where
    go : (f : Option ℕ) → f ≡ later 0 f
    go (Some j) = rw zero-add
    go None = refl

pub twice_first : (t : Table) → held_twice (held_in t) ≡ held_twice (entries t.hashes t.sizes 0 (min t.count most_stashes - 0))
unfolding held_in
twice_first t =
    let e : min t.count most_stashes - 0 ≡ min t.count most_stashes = omega arith in
    rw e

pub empty_sizes : (t : Table) (n : ℕ) → n ≡ min t.count most_stashes → n ≤ length t.sizes
    → list_any (λ y. eqb y 0) (take n t.sizes) ≡ holds_empty (held_in t)
unfolding held_in
empty_sizes t n e l = rw e (empty_entries t.hashes t.sizes 0 (min t.count most_stashes) (omega arith))

pub held-entries : (t : Table) (n : ℕ) → n ≡ min t.count most_stashes → held_in t ≡ entries t.hashes t.sizes 0 (n - 0)
unfolding held_in
held-entries t n e =
    let f : n - 0 ≡ min t.count most_stashes = omega arith in
    rw f

pub length-held : (t : Table) → length (held_in t) ≡ min t.count most_stashes
unfolding held_in
length-held t = length-entries _ _ _ _

pub size_held : (t : Table) (j : ℕ) → j < min t.count most_stashes → size_at (held_in t) j ≡ get_or t.sizes j 0
unfolding held_in
size_held t j l =
    let e : 0 + j ≡ j = omega arith in
    size-entries t.hashes t.sizes 0 _ j l ∙ rw e

-- an empty table holds nothing
pub none-held : held_in empty_table ≡ []
unfolding held_in entries
none-held = refl

-- the first of them, up to the most, are all of them
pub take-held : (t : Table) → take most_stashes (held_in t) ≡ held_in t
take-held t = take_all most_stashes (held_in t) (omega (arith, length-held t))

-- the bounded sum of their blocks is the whole one where that is below the bound
pub blocks-all : (t : Table) {n : ℕ} → n ≡ bounded (blocks_held (take most_stashes (held_in t))) → blocks_held (held_in t) < bound
    → n ≡ blocks_held (held_in t)
blocks-all t e l = omega (arith, ap blocks_held (take-held t))

-- ---- whole tables

pub whole-none : Whole empty_table
whole-none = record { hashes = length-replicate {A = ℕ} table_bytes 0; sizes = length-replicate {A = ℕ} most_stashes 0; count = omega arith }

pub whole-held : {t : Table} → Whole t → length (held_in t) ≡ t.count
whole-held {t} w = omega (arith, length-held t)

-- ---- one stash more

-- the table with it written after the last entry
abbrev one_more : Table → List ℕ → ℕ → Table
one_more t hash blocks = table_at (paste t.hashes (hash_bytes * t.count) hash hash_bytes) (set t.sizes t.count blocks) (t.count + 1)

module _ (t : Table) (hash : List ℕ) (blocks : ℕ) where
  pub holding_full : most_stashes ≤ t.count → holding t hash blocks ≡ t
  unfolding holding
  holding_full h = rw (le-ltb t.count most_stashes h)

  pub holding_room : t.count < most_stashes → holding t hash blocks ≡ one_more t hash blocks
  unfolding holding
  holding_room h = rw (lt-ltb t.count most_stashes h)

  pub hold_count : t.count < most_stashes → (holding t hash blocks).count ≡ t.count + 1
  hold_count h = rw (holding_room h)

  pub hold_whole : Whole t → length hash ≡ hash_bytes → Whole (holding t hash blocks)
  unfolding holding
  hold_whole w f = picks Whole (ltb t.count most_stashes) _ _ (λ l. room (ltb-true t.count most_stashes l)) (λ l. w)
    where
      room : t.count < most_stashes → Whole (one_more t hash blocks)
      room l =
          record {
            hashes = length-paste t.hashes (hash_bytes * t.count) hash hash_bytes (omega arith) (omega arith) ∙ w.hashes;
            sizes = length-set t.sizes t.count blocks ∙ w.sizes;
            count = omega arith;
          }

pub hold_held : (t : Table) (hash : List ℕ) (blocks : ℕ) → Whole t → t.count < most_stashes → length hash ≡ hash_bytes
    → held_in (holding t hash blocks) ≡ held_in t ++ (record { hash = hash; blocks = blocks } ∷ [])
unfolding held_in
hold_held t hash blocks w l f =
    let n : min (t.count + 1) most_stashes ≡ t.count + 1 = omega arith in
    let m : min t.count most_stashes ≡ t.count = omega arith in
    rw (holding_room t hash blocks l, n, m) (entries-more t.hashes t.sizes hash t.count blocks (omega arith) (omega arith) f)

-- ---- one stash less

-- the table with the entries after j moved down
abbrev one_less : Table → ℕ → Table
one_less t j =
    table_at
    (paste t.hashes (hash_bytes * j) (drop (hash_bytes * (j + 1)) t.hashes) (hash_bytes * (t.count - (j + 1))))
    (paste t.sizes j (drop (j + 1) t.sizes) (t.count - (j + 1)))
    (t.count - 1)

module _ (t : Table) (j : ℕ) where
  pub releasing_none : t.count ≤ j → releasing t j ≡ t
  unfolding releasing
  releasing_none h = rw (le-ltb j t.count h)

  pub releasing_past : j < t.count → most_stashes < t.count → releasing t j ≡ t
  unfolding releasing
  releasing_past h l = rw (lt-ltb j t.count h, lt-leb t.count most_stashes l)

  pub releasing_one : j < t.count → t.count ≤ most_stashes → releasing t j ≡ one_less t j
  unfolding releasing
  releasing_one h l = rw (lt-ltb j t.count h, le-leb t.count most_stashes l)

  pub release_count : j < t.count → t.count ≤ most_stashes → (releasing t j).count ≡ t.count - 1
  release_count h l = rw (releasing_one h l)

  pub release_whole : Whole t → Whole (releasing t j)
  unfolding releasing
  release_whole w =
      picks
      Whole
      (both (ltb j t.count) (leb t.count most_stashes))
      _
      _
      (λ l. one (ltb-true j t.count (both_true (ltb j t.count) (leb t.count most_stashes) l).0))
      (λ l. w)
    where
      one : j < t.count → Whole (one_less t j)
      one l =
          record {
            hashes =
                length-paste t.hashes (hash_bytes * j) _ (hash_bytes * (t.count - (j + 1))) (omega arith) (simp length-drop (omega arith))
                ∙ w.hashes;
            sizes = length-paste t.sizes j _ (t.count - (j + 1)) (omega arith) (simp length-drop (omega arith)) ∙ w.sizes;
            count = omega arith;
          }

module _ (t : Table) (j : ℕ) (w : Whole t) where
  held-less : j < t.count → held_in (releasing t j) ≡ without (held_in t) j
  unfolding held_in
  held-less l =
      let n : min (t.count - 1) most_stashes ≡ j + (t.count - (j + 1)) = omega arith in
      let m : min t.count most_stashes ≡ j + 1 + (t.count - (j + 1)) = omega arith in
      rw (releasing_one t j l w.count, n, m) (entries-less t.hashes t.sizes j (t.count - (j + 1)) (omega arith) (omega arith))

  pub release_held : held_in (releasing t j) ≡ without (held_in t) j
  release_held =
      ⊎_elim
      (λ (e : ltb j t.count ≡ true). held-less (ltb-true j t.count e))
      (λ (e : ltb j t.count ≡ false).
      let l = ltb-false j t.count e in
      ap held_in (releasing_none t j l) ∙ sym (without-past (held_in t) j (omega (arith, length-held t))))
      (bool (ltb j t.count))

-- ---- what the functions on a table stand on

pub ruleset looking_steps = (find_first, find_here, find_on, find_end, again_here, again_on, again_end, twice_first, twice_here, twice_on, twice_end)

pub ruleset table_steps = (length-held, size_held, size_past, blocks_held-next, holding_full, holding_room, releasing_none, releasing_past, releasing_one, put_mid-paste)

-- Laws of `specs/Patch.antt`: the records that are left, by the one that is read first; what they make, and how long it is.
-- Assumes nothing.
use Rattle.std.proofs.Common.{◌≡◌, ℕ, zero, suc, ◌+◌, ◌-◌, ◌<◌, ◌≤◌, Bool, true, false, eqb, ltb, List, ◌++◌, length, take, drop, sym, refl, ap, ◌∙◌, ap₂, append_assoc, append-nil, zero-add, arith, length-append, length-drop, length-take-le, take_at, le-ltb, lt-ltb, eqb-true}
use lib.Seq.{take-length}
use Rattle.text.specs.Choice.{pick, both}
use Rattle.text.proofs.ChoiceLaws.{both_true}
use Rattle.text.specs.Read.{on_option}
use Rattle.copy.proofs.OverLaws.{length_over}
use Rattle.patch.specs.Position.{origin, last_position}
use Rattle.patch.specs.Record.{record_at}
use Rattle.patch.specs.Added.{added}
use Rattle.patch.specs.Patch.{Records, stopped, follow, records_at, records_from, records_of, between, record_result, record_size, result_of, result_size, patched_by, is_patch}
use Rattle.patch.specs.declared.records.Record.{Record}
use Rattle.patch.proofs.RecordLaws.{Within, record_within}
use Rattle.patch.proofs.AddedLaws.{length-added}
use Rattle.std.specs.Prelude.{Option, Some, None}

-- ---- the records from a byte of the patch on

-- a bound that is large enough does not matter
enough : (patch : List ℕ) (n m at position : ℕ) → position ≤ last_position → at ≤ length patch → length patch < n + at → length patch < m + at →
    records_at n patch at position ≡ records_at m patch at position
unfolding records_at
enough patch zero m at position p a h k = absurd (omega arith)
enough patch (suc n) zero at position p a h k = absurd (omega arith)
enough patch (suc n) (suc m) at position p a h k =
    ap (λ (x : Records). pick (ltb at (length patch)) x (stopped true)) (go (enough patch n m) (record_at patch at position) refl)
  where
    go : ((at position : ℕ) → position ≤ last_position → at ≤ length patch → length patch < n + at → length patch < m + at →
        records_at n patch at position ≡ records_at m patch at position) →
        (x : Option Record) → record_at patch at position ≡ x →
        on_option x (λ r. follow r (records_at n patch r.end r.next)) (stopped false)
        ≡ on_option x (λ r. follow r (records_at m patch r.end r.next)) (stopped false)
    go same (Some r) e =
        let w = record_within patch at position p e in
        ap (follow r) (same r.end r.next w.next w.inside (omega arith) (omega arith))
    go same None e = refl

module _ (patch : List ℕ) (at position : ℕ) where
  pub records_end : length patch ≤ at → records_from patch at position ≡ stopped true
  unfolding records_from records_at
  records_end h = rw (le-ltb at (length patch) h)

  pub records_bad : at < length patch → record_at patch at position ≡ None → records_from patch at position ≡ stopped false
  unfolding records_from records_at
  records_bad h e = rw (lt-ltb at (length patch) h, e)

  pub records_good : at < length patch → position ≤ last_position → {r : Record} → record_at patch at position ≡ Some r →
      records_from patch at position ≡ follow r (records_from patch r.end r.next)
  unfolding records_from records_at
  records_good h p {r} e =
      let w = record_within patch at position p e in
      let rest = enough patch (length patch - at) (suc (length patch - r.end)) r.end r.next w.next w.inside (omega arith) (omega arith) in
      rw (lt-ltb at (length patch) h, e) (ap (follow r) rest)

-- ---- a patch that is checked, some bytes being counted already

-- the records that are left are good, and all bytes together are so many
abbrev pub is_good : ℕ → Records → ℕ → Bool
is_good total left size = both left.good (eqb (total + result_size left.list) size)

pub good_start : (patch : List ℕ) (size : ℕ) → is_good 0 (records_of patch) size ≡ is_patch patch size
unfolding is_patch
good_start patch size = rw (zero-add (result_size (records_of patch).list))

module _ (total size : ℕ) {left : Records} where
  pub good-bad : left ≡ stopped false → false ≡ is_good total left size
  good-bad e = rw e

  pub good-end : left ≡ stopped true → eqb total size ≡ is_good total left size
  unfolding result_size
  good-end e = let z : total + 0 ≡ total = omega arith in rw (e, z)

  pub good-next : {r : Record} {rest : Records} → left ≡ follow r rest → is_good (total + record_size r) rest size ≡ is_good total left size
  unfolding result_size
  good-next {r} {rest} e =
      let s : total + (record_size r + result_size rest.list) ≡ total + record_size r + result_size rest.list = omega arith in
      rw (e, s)

-- ---- what records make

pub length-between : (bytes : List ℕ) (start end : ℕ) → end ≤ length bytes → length (between start end bytes) ≡ end - start
length-between bytes start end h = length-take-le (end - start) (drop start bytes) (simp length-drop (omega arith))

module _ (patch source : List ℕ) where
  pub length_record : {at : ℕ} {r : Record} → Within patch at r → length (record_result patch source r) ≡ record_size r
  unfolding record_result
  length_record {at} {r} w =
      let adds = between r.adds r.extras patch in
      let k : length adds ≡ r.extras - r.adds = length-between patch r.adds r.extras (omega arith) in
      let l : length (between r.extras r.end patch) ≡ r.end - r.extras = length-between patch r.extras r.end w.inside in
      let m : length (added source r.position adds) ≡ length adds = length-added source r.position adds in
      simp length-append (omega arith)

  length-result : (n at position : ℕ) → position ≤ last_position →
      length (result_of patch source (records_at n patch at position).list) ≡ result_size (records_at n patch at position).list
  unfolding records_at result_of result_size
  length-result zero at position p = refl
  length-result (suc n) at position p = go (length-result n) (ltb at (length patch)) (record_at patch at position) refl
    where
      go : ((at position : ℕ) → position ≤ last_position →
          length (result_of patch source (records_at n patch at position).list) ≡ result_size (records_at n patch at position).list) →
          (t : Bool) (x : Option Record) → record_at patch at position ≡ x →
          length (result_of patch source (pick t (on_option x (λ r. follow r (records_at n patch r.end r.next)) (stopped false)) (stopped true)).list)
          ≡ result_size (pick t (on_option x (λ r. follow r (records_at n patch r.end r.next)) (stopped false)) (stopped true)).list
      go more true (Some r) e =
          let w = record_within patch at position p e in
          length-append (record_result patch source r) (result_of patch source (records_at n patch r.end r.next).list)
          ∙ ap₂ (λ (i j : ℕ). i + j) (length_record w) (more r.end r.next w.next)
      go more true None e = refl
      go more false x e = refl

-- ---- a result that is being written

-- what is written, with what the records that are left make, is what all of them make, and there is room for just that
pub record Writing (patch source result : List ℕ) (at position out : ℕ) : Type 0 where
  pub inside : at ≤ length patch
  pub near : position ≤ last_position
  pub room : out + result_size (records_from patch at position).list ≡ length result
  pub made : take out result ++ result_of patch source (records_from patch at position).list ≡ patched_by patch source

pub writing_start : (patch source result : List ℕ) → length result ≡ result_size (records_of patch).list → Writing patch source result 0 origin 0
unfolding patched_by
writing_start patch source result e = record { inside = omega arith; near = omega arith; room = omega arith; made = refl }

module _ {patch source result : List ℕ} {at position out : ℕ} (w : Writing patch source result at position out) where
  pub writing_end : {good : Bool} → records_from patch at position ≡ stopped good → result ≡ patched_by patch source
  unfolding result_of result_size
  writing_end e =
      let n : out ≡ length result = omega (arith, rw e at w.room) in
      sym (append-nil result) ∙ rw (n, take-length result) at (rw e at w.made)

  module _ {r : Record} (e : records_from patch at position ≡ follow r (records_from patch r.end r.next)) (k : Within patch at r) where
    pub writing_room : out + record_size r + result_size (records_from patch r.end r.next).list ≡ length result
    unfolding result_size
    writing_room = omega (arith, rw e at w.room)

    pub writing_next : (part : List ℕ) → part ≡ record_result patch source r →
        Writing patch source (take out result ++ (part ++ drop (out + record_size r - out) (drop out result))) r.end r.next (out + record_size r)
    unfolding result_of
    writing_next part f =
        let l : length part ≡ record_size r = ap length f ∙ length_record patch source k in
        let n : out + record_size r - out ≡ length part = omega arith in
        let h = length_over result out part (omega (arith, writing_room)) in
        let rest = result_of patch source (records_from patch r.end r.next).list in
        let t = length-take-le out result (omega (arith, writing_room)) in
        let front : length (take out result ++ part) ≡ out + record_size r = length-append (take out result) part ∙ omega arith in
        rw n
        (record {
          inside = k.inside;
          near = k.next;
          room = writing_room ∙ sym h;
          made =
              ap (λ (x : List ℕ). take (out + record_size r) x ++ rest) (sym (append_assoc (take out result) part (drop (length part) (drop out result))))
              ∙ ap (λ (x : List ℕ). x ++ rest) (take_at (take out result ++ part) (drop (length part) (drop out result)) (out + record_size r) front)
              ∙ append_assoc (take out result) part rest
              ∙ ap (λ (x : List ℕ). take out result ++ (x ++ rest)) f
              ∙ rw e at w.made;
        })

-- ---- a good patch

-- the sizes of a patch's records are those of its result
pub patch-size : (patch : List ℕ) (size : ℕ) → is_patch patch size ≡ true → result_size (records_of patch).list ≡ size
unfolding is_patch
patch-size patch size e = eqb-true _ _ (both_true (records_of patch).good (eqb (result_size (records_of patch).list) size) e).1

-- what a good patch makes is as long as it is said to be
pub patched-length : (patch source : List ℕ) (size : ℕ) → is_patch patch size ≡ true → length (patched_by patch source) ≡ size
unfolding patched_by records_from
patched-length patch source size e = length-result patch source (suc (length patch - 0)) 0 origin (omega arith) ∙ patch-size patch size e

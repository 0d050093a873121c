-- Areas that are the same in some blocks: which blocks the effects on the bytes of an area leave as they were, whichever area it is.
-- Assumes nothing.
use mathlib.Core.Path.{◌≡◌, refl, sym, ap, ◌∙◌}
use mathlib.Core.Bool.{true, false}
use mathlib.Core.Logic.{⊎_elim}
use mathlib.Core.List.{List, [], ◌∷◌, ◌++◌}
use Prim.Native.Nat.{ℕ, zero, suc, ◌+◌, ◌-◌, ◌*◌, ◌/◌, ◌%◌, ◌≤◌, ◌<◌}
use native.Mathlib.Omega.{arith}
use borrow.Author.Tests.{ltb-true, ltb-false, eqb-false, eq-eqb, ne_eqb}
use lib.Dec.{ltb, eqb}
use lib.ListN.{length, take, drop, get_or, set, replicate, length-take, length-drop, length-set, length-replicate, get_or-append}
use lib.Seq.{length-take-le, get_or-take, get_or-drop, get_or-append-add, get_or-set_other, drop-paste}
use Rattle.text.proofs.ChoiceLaws.{bool, either_or_true, either_false}
use Rattle.ranges.specs.Ranges.{span}
use Rattle.ranges.specs.Walk.{blocks_at, AllBelow}
use Rattle.ranges.proofs.WalkLaws.{below_head, below_tail, below_weaken, below_left, below_right}
use Rattle.state.specs.Limits.{block_bytes}
use Rattle.state.specs.Stashes.{Stash}
use Rattle.command.specs.Parts.{StashUse, uses_at}
use Rattle.command.specs.declared.source.Source.{Source}
use Rattle.command.specs.declared.source.Source.TheVariants.{Blocks, Stashes, Both}
use Rattle.rules.specs.Move.{is_in, places_of}
use Rattle.rules.specs.declared.Terms.{Terms}
use Rattle.rules.proofs.RuleLaws.{SourceFits, misplaced-below}
use Rattle.copy.specs.Over.{over}
use Rattle.copy.proofs.OverLaws.{length_over}
use Rattle.updater.specs.Bytes.{zeroed, gathered, written, address_of, moved_down}
use Rattle.updater.specs.Source.{stash_bytes, spread, supplied, together}
use Rattle.updater.proofs.ByteLaws.{length-moved_down}
use Rattle.sequence.specs.Footprint.{SameIn}

-- ---- the same in some blocks

pub same : {P : ℕ → Type 0} (area : List ℕ) → SameIn P area area
same area = record { size = refl; bytes = λ k e. refl }

pub same_then : {P : ℕ → Type 0} {a b c : List ℕ} → SameIn P a b → SameIn P b c → SameIn P a c
same_then f g = record { size = g.size ∙ f.size; bytes = λ k e. g.bytes k e ∙ f.bytes k e }

-- .. and in fewer of them
pub same-fewer : {P Q : ℕ → Type 0} {a b : List ℕ} → ((k : ℕ) → Q k → P k) → SameIn P a b → SameIn Q a b
same-fewer h f = record { size = f.size; bytes = λ k e. f.bytes k (h (k / block_bytes) e) }

-- the blocks that are none of bs
abbrev pub OutOf : List ℕ → ℕ → Type 0
OutOf bs b = is_in b bs ≡ false

-- the blocks past the first n
abbrev pub Past : ℕ → ℕ → Type 0
Past n b = n ≤ b

out_below : (n : ℕ) (bs : List ℕ) (b : ℕ) → AllBelow n bs → n ≤ b → is_in b bs ≡ false
unfolding is_in
out_below n [] b h l = refl
out_below n (c ∷ bs) b h l =
    rw (ne_eqb b c (let k = below_head n c bs h in λ e. omega arith)) (out_below n bs b (below_tail n c bs h) l)

-- ---- bytes over an area

-- a byte before the written ones
over-before : (area : List ℕ) (at : ℕ) (bytes : List ℕ) (k : ℕ) → at ≤ length area → k < at → get_or (over area at bytes) k 0 ≡ get_or area k 0
over-before area at bytes k h l =
    get_or-append (take at area) (bytes ++ drop (length bytes) (drop at area)) 0 k (omega (arith, length-take-le at area h))
    ∙ get_or-take at area k 0 l

-- .. and past them
over-past : (area : List ℕ) (at : ℕ) (bytes : List ℕ) (k : ℕ) → at ≤ length area → at + length bytes ≤ k →
    get_or (over area at bytes) k 0 ≡ get_or area k 0
over-past area at bytes k h l =
    let n = length bytes in
    let j = k - (at + n) in
    let rest = drop n (drop at area) in
    let e : k ≡ length (take at area) + (n + j) = omega (arith, length-take-le at area h) in
    let f : at + (n + j) ≡ k = omega arith in
    ap (λ (i : ℕ). get_or (over area at bytes) i 0) e
    ∙ get_or-append-add (take at area) (bytes ++ rest) (n + j) 0
    ∙ get_or-append-add bytes rest j 0
    ∙ get_or-drop n (drop at area) j 0
    ∙ get_or-drop at area (n + j) 0
    ∙ ap (λ (i : ℕ). get_or area i 0) f

-- the blocks past the written bytes
pub over-same : (area : List ℕ) (at : ℕ) (bytes : List ℕ) (n : ℕ) → at + length bytes ≤ block_bytes * n → at + length bytes ≤ length area →
    SameIn (Past n) area (over area at bytes)
over-same area at bytes n h l =
    record { size = length_over area at bytes l; bytes = λ k e. over-past area at bytes k (omega arith) (omega arith) }

pub moved_same : (area : List ℕ) (to from n m : ℕ) → to ≤ from → from + n ≤ length area → to + n ≤ block_bytes * m →
    SameIn (Past m) area (moved_down area to from n)
unfolding moved_down
moved_same area to from n m h l e =
    record {
      size = length-moved_down area to from n h l;
      bytes = λ k o.
          let j = k - (to + n) in
          let f : k ≡ to + n + j = omega arith in
          rw f
          (sym (get_or-drop (to + n) (moved_down area to from n) j 0)
          ∙ ap (λ (x : List ℕ). get_or x j 0) (drop-paste area to (drop from area) n (omega arith) (simp length-drop (omega arith)))
          ∙ get_or-drop (to + n) area j 0);
    }

-- ---- the blocks of a set

-- bytes within block b
over_block : (area : List ℕ) (b : ℕ) (bytes : List ℕ) → length bytes ≤ block_bytes → b < length area / block_bytes →
    SameIn (λ c. c ≡ b → ⊥) area (over area (block_bytes * b) bytes)
over_block area b bytes h l =
    record {
      size = length_over area (block_bytes * b) bytes (omega arith);
      bytes = λ k other.
          ⊎_elim
          (λ t. over-before area (block_bytes * b) bytes k (omega arith) (ltb-true k (block_bytes * b) t))
          (λ t.
          let m = ltb-false k (block_bytes * b) t in
          over-past area (block_bytes * b) bytes k (omega arith) (omega (arith, other)))
          (bool (ltb k (block_bytes * b)));
    }

-- block b, then others
same_next : {area mid end : List ℕ} (b : ℕ) (bs : List ℕ) → SameIn (λ c. c ≡ b → ⊥) area mid → SameIn (OutOf bs) mid end →
    SameIn (OutOf (b ∷ bs)) area end
unfolding is_in
same_next b bs f g =
    same_then
    (same-fewer (λ c e. eqb-false c b (either_false (eqb c b) (is_in c bs) e).0) f)
    (same-fewer (λ c e. (either_false (eqb c b) (is_in c bs) e).1) g)

pub zeroed-same : (bs area : List ℕ) → AllBelow (length area / block_bytes) bs → SameIn (OutOf bs) area (zeroed bs area)
unfolding zeroed
zeroed-same [] area h = same area
zeroed-same (b ∷ bs) area h =
    let one = over_block area b (replicate block_bytes 0) (simp length-replicate (omega arith)) (below_head _ _ _ h) in
    same_next b bs one (zeroed-same bs _ (rw one.size (below_tail _ _ _ h)))

pub written_same : (bs bytes area : List ℕ) → AllBelow (length area / block_bytes) bs → SameIn (OutOf bs) area (written bs bytes area)
unfolding written
written_same [] bytes area h = same area
written_same (b ∷ bs) bytes area h =
    let one = over_block area b (take block_bytes bytes) (simp length-take (omega arith)) (below_head _ _ _ h) in
    same_next b bs one (written_same bs (drop block_bytes bytes) _ (rw one.size (below_tail _ _ _ h)))

-- ---- bytes of new data

in_at : (bs : List ℕ) (i : ℕ) → i < length bs → is_in (get_or bs i 0) bs ≡ true
unfolding is_in
in_at [] i h = absurd (omega arith)
in_at (b ∷ bs) zero h = rw (eq-eqb b b refl)
in_at (b ∷ bs) (suc i) h = rw (in_at bs i (omega arith)) (sym (either_or_true (eqb (get_or bs i 0) b)))

-- byte k of a target lies in one of its blocks
address_block : (bs : List ℕ) (k : ℕ) → k < block_bytes * length bs → is_in (address_of bs k / block_bytes) bs ≡ true
unfolding address_of
address_block bs k h =
    let e : (block_bytes * get_or bs (k / block_bytes) 0 + k % block_bytes) / block_bytes ≡ get_or bs (k / block_bytes) 0 = omega arith in
    rw e (in_at bs (k / block_bytes) (omega arith))

pub put_same : (bs : List ℕ) (k x : ℕ) (area : List ℕ) → k < block_bytes * length bs → SameIn (OutOf bs) area (set area (address_of bs k) x)
put_same bs k x area h =
    record {
      size = length-set area (address_of bs k) x;
      bytes = λ i o.
          get_or-set_other area (address_of bs k) i x 0
          (λ e. let here = address_block bs k h in let z : ◌≡◌ {A = ℕ} 0 1 = cc in omega arith);
    }

-- ---- a source put together in the work area

-- bytes over blocks that are all below n
below-same : (n : ℕ) (bs bytes area : List ℕ) → AllBelow n bs → n ≤ length area / block_bytes → SameIn (Past n) area (written bs bytes area)
below-same n bs bytes area h l =
    same-fewer (λ b e. out_below n bs b h e) (written_same bs bytes area (below_weaken n (length area / block_bytes) bs l h))

below_span : (start n m : ℕ) → start + n ≤ m → AllBelow m (span start n)
unfolding span AllBelow
below_span start zero m h = tt
below_span start (suc n) m h = (omega arith, below_span (suc start) n m (omega arith))

module _ (l stash : List ℕ) (held : List Stash) (n : ℕ) where
  spread_same : (ps : List StashUse) (work : List ℕ) → AllBelow n (places_of l ps) → n ≤ length work / block_bytes →
      SameIn (Past n) work (spread l held stash ps work)
  unfolding spread places_of
  spread_same [] work h e = same work
  spread_same (p ∷ ps) work h e =
      let here = blocks_at l p.places.at in
      let one = below-same n here (stash_bytes held stash p.hash) work (below_left n here (places_of l ps) h) e in
      same_then one (spread_same ps _ (below_right n here (places_of l ps) h) (rw one.size e))

  pub supplied-same : (image : List ℕ) (at : ℕ) (work : List ℕ) → n ≤ length work / block_bytes →
      SameIn (Past n) work (supplied l image at n work)
  unfolding supplied
  supplied-same image at work e = below-same n (span 0 n) (gathered (blocks_at l at) image) work (below_span 0 n n (omega arith)) e

  pub together-same : (terms : Terms) (image : List ℕ) (source : Source) (work : List ℕ) → SourceFits l terms held n source →
      n ≤ length work / block_bytes → SameIn (Past n) work (together l image stash held source work)
  unfolding together
  together-same terms image (Blocks set) work f e = rw f.size (supplied-same image set.at work e)
  together-same terms image (Stashes first) work f e =
      spread_same (uses_at l first) work (misplaced-below n [] (places_of l (uses_at l first)) f.placed) e
  together-same terms image (Both set places first) work f e =
      let here = blocks_at l places.at in
      let rest = places_of l (uses_at l first) in
      let below = misplaced-below n [] (here ++ rest) f.placed in
      let one = below-same n here (gathered (blocks_at l set.at) image) work (below_left n here rest below) e in
      same_then one (spread_same (uses_at l first) _ (below_right n here rest below) (rw one.size e))

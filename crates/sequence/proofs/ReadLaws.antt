-- Of the image a command reads its target blocks, to see whether it is finished, and its source blocks: over images that are alike in
-- these, the same source is put together, its hash differs or not alike, and the same is patched and stashed.
-- Assumes nothing.
use mathlib.Core.Path.{◌≡◌, refl, sym, subst, ◌∙◌}
use mathlib.Core.Bool.{Bool, true, false}
use mathlib.Core.List.{List, [], ◌∷◌}
use Prim.Native.Nat.{ℕ, ◌+◌, ◌*◌, ◌<◌}
use native.Mathlib.Omega.{arith}
use borrow.Author.Tests.{eq-eqb}
use lib.Dec.{eqb}
use lib.ListN.{drop, length-take, length-drop}
use lib.Seq.{get_or-take, get_or-drop, ext_get_or}
use Rattle.text.specs.Choice.{pick}
use Rattle.text.proofs.ChoiceLaws.{either_or_true}
use Rattle.ranges.specs.Walk.{blocks_at}
use Rattle.state.specs.Limits.{block_bytes}
use Rattle.state.specs.Refusals.{none}
use Rattle.state.specs.Stashes.{Stash}
use Rattle.command.specs.Targets.{image_blocks_of, target_blocks, source_blocks}
use Rattle.command.specs.declared.source.Source.{Source}
use Rattle.command.specs.declared.source.Source.TheVariants.{Blocks, Stashes, Both}
use Rattle.command.specs.declared.Command.{Command}
use Rattle.command.specs.declared.Command.TheVariants as command
use Rattle.rules.specs.Move.{is_in}
use Rattle.command.specs.Patching.{patching_of, result_hash}
use Rattle.patch.specs.Patch.{is_patch}
use Rattle.updater.specs.Bytes.{block_at, gathered}
use Rattle.updater.specs.Source.{supplied, together, hashes_to, blocks_hash_to}
use Rattle.updater.specs.Areas.{Areas, with_image}
use Rattle.updater.specs.Effect.{Effect, effect_of, move_filled, stash_filled, patch_of, result_filled, patch_filled, bsdiff_filled, filled, written_from}
use Rattle.updater.specs.Effect.{is_finished, filled_written, unfinished_effect, effect}
use Rattle.sequence.specs.Footprint.{SameIn, SameButImage, FinishedByTarget, FinishedLeaves, OnlyRead}
use Rattle.sequence.proofs.SameLaws.{same-fewer}

-- ---- a source

-- the blocks of bs
abbrev pub In : List ℕ → ℕ → Type 0
In bs b = is_in b bs ≡ true

block_reads : {a b : List ℕ} (c : ℕ) → SameIn (λ d. d ≡ c) a b → block_at b c ≡ block_at a c
block_reads {a} {b} c f =
    let e = f.size in
    ext_get_or 0 (block_at b c) (block_at a c)
    (simp (length-take, length-drop) (omega arith))
    (λ i h.
    let m : i < block_bytes = omega (arith, length-take block_bytes (drop (block_bytes * c) b)) in
    get_or-take block_bytes (drop (block_bytes * c) b) i 0 m
    ∙ get_or-drop (block_bytes * c) b i 0
    ∙ f.bytes (block_bytes * c + i) (omega arith)
    ∙ sym (get_or-take block_bytes (drop (block_bytes * c) a) i 0 m ∙ get_or-drop (block_bytes * c) a i 0))

gathered-reads : (bs : List ℕ) {a b : List ℕ} → SameIn (In bs) a b → gathered bs b ≡ gathered bs a
unfolding gathered is_in
gathered-reads [] f = refl
gathered-reads (c ∷ bs) f =
    rw (
      block_reads c (same-fewer (λ d e. rw (eq-eqb d c e)) f),
      gathered-reads bs (same-fewer (λ d e. rw e (sym (either_or_true (eqb d c)))) f),
    )

module _ (l : List ℕ) {a b : List ℕ} where
  pub supplied-reads : (at n : ℕ) (work : List ℕ) → SameIn (In (blocks_at l at)) a b → supplied l b at n work ≡ supplied l a at n work
  unfolding supplied
  supplied-reads at n work f = rw (gathered-reads (blocks_at l at) f)

  pub together-reads : (stash : List ℕ) (held : List Stash) (source : Source) (work : List ℕ) → SameIn (In (image_blocks_of l source)) a b →
      together l b stash held source work ≡ together l a stash held source work
  unfolding together image_blocks_of
  together-reads stash held (Blocks set) work f = supplied-reads set.at set.blocks work f
  together-reads stash held (Stashes first) work f = refl
  together-reads stash held (Both set places first) work f = rw (gathered-reads (blocks_at l set.at) f)

-- ---- a command

alike : {x y : Effect} → y.areas.stash ≡ x.areas.stash → y.areas.work ≡ x.areas.work → y.areas.result ≡ x.areas.result →
    y.refusal ≡ x.refusal → SameButImage x y
alike s w r n = record { stash = s; work = w; result = r; refusal = n }

-- by the same test
alike-pick : (t : Bool) {x y x' y' : Effect} → SameButImage x x' → SameButImage y y' → SameButImage (pick t x y) (pick t x' y')
alike-pick true e f = e
alike-pick false e f = f

-- .. where the second is only asked for when the test fails
alike_unless : (t : Bool) {x y x' y' : Effect} → SameButImage x x' → (t ≡ false → SameButImage y y') → SameButImage (pick t x y) (pick t x' y')
alike_unless true e f = e
alike_unless false e f = f refl

-- what is filled
filled-read : (l : List ℕ) (held : List Stash) (hash : List ℕ) (c : Command) (a : Areas) (image : List ℕ) →
    SameIn (In (source_blocks l c)) a.image image → SameButImage (filled l held hash c a) (filled l held hash c (with_image a image))
unfolding filled move_filled bsdiff_filled patch_filled result_filled stash_filled source_blocks
filled-read l held hash (command.Zero set) a image f = alike refl refl refl refl
filled-read l held hash (command.Erase set) a image f = alike refl refl refl refl
filled-read l held hash (command.New set) a image f = alike refl refl refl refl
filled-read l held hash (command.Move target n source) a image f =
    rw (together-reads l a.stash held source a.work f) (alike refl refl refl refl)
filled-read l held hash (command.Bsdiff target n source) a image f =
    rw (together-reads l a.stash held source a.work f)
    (alike-pick (hashes_to (together l a.image a.stash held source a.work) n hash)
    (alike-pick (is_patch (patch_of (patching_of l) a) (block_bytes * target.blocks)) (alike refl refl refl refl) (alike refl refl refl refl))
    (alike refl refl refl refl))
filled-read l held hash (command.Stash set) a image f =
    rw (supplied-reads l set.at set.blocks a.work f) (alike refl refl refl refl)
filled-read l held hash command.Free a image f = alike refl refl refl refl
filled-read l held hash command.Unsupported a image f = alike refl refl refl refl
filled-read l held hash (command.Bad p) a image f = alike refl refl refl refl

-- .. and what is written from it
written_read : (l : List ℕ) (held : List Stash) (c : Command) (x y : Effect) → SameButImage x y →
    SameButImage (effect_of (written_from l held c x.areas) none) (effect_of (written_from l held c y.areas) none)
unfolding written_from
written_read l held (command.Zero set) x y f = alike f.stash f.work f.result refl
written_read l held (command.Erase set) x y f = alike f.stash f.work f.result refl
written_read l held (command.New set) x y f = alike f.stash f.work f.result refl
written_read l held (command.Move target n source) x y f = alike f.stash f.work f.result refl
written_read l held (command.Bsdiff target n source) x y f = alike f.stash f.work f.result refl
written_read l held (command.Stash set) x y f = alike (rw (f.stash, f.work)) f.work f.result refl
written_read l held command.Free x y f = alike f.stash f.work f.result refl
written_read l held command.Unsupported x y f = alike f.stash f.work f.result refl
written_read l held (command.Bad p) x y f = alike f.stash f.work f.result refl

filled_written-read : (l : List ℕ) (held : List Stash) (hash : List ℕ) (c : Command) (a : Areas) (image : List ℕ) →
    SameIn (In (source_blocks l c)) a.image image → SameButImage (filled_written l held hash c a) (filled_written l held hash c (with_image a image))
unfolding filled_written
filled_written-read l held hash c a image f =
    let x = filled l held hash c a in
    let y = filled l held hash c (with_image a image) in
    let g = filled-read l held hash c a image f in
    subst (λ (n : ℕ). SameButImage (filled_written l held hash c a) (pick (eqb n none) (effect_of (written_from l held c y.areas) none) y))
    (sym g.refusal)
    (alike-pick (eqb x.refusal none) (written_read l held c x y g) g)

unfinished_read : (l : List ℕ) (held : List Stash) (hash : List ℕ) (c : Command) (a : Areas) (image : List ℕ) →
    SameIn (In (source_blocks l c)) a.image image →
    SameButImage (unfinished_effect l held hash c a) (unfinished_effect l held hash c (with_image a image))
unfolding unfinished_effect
unfinished_read l held hash (command.Zero set) a image f = alike refl refl refl refl
unfinished_read l held hash (command.Erase set) a image f = alike refl refl refl refl
unfinished_read l held hash (command.New set) a image f = alike refl refl refl refl
unfinished_read l held hash (command.Move target n source) a image f = filled_written-read l held hash (command.Move target n source) a image f
unfinished_read l held hash (command.Bsdiff target n source) a image f =
    filled_written-read l held hash (command.Bsdiff target n source) a image f
unfinished_read l held hash (command.Stash set) a image f = filled_written-read l held hash (command.Stash set) a image f
unfinished_read l held hash command.Free a image f = alike refl refl refl refl
unfinished_read l held hash command.Unsupported a image f = alike refl refl refl refl
unfinished_read l held hash (command.Bad p) a image f = alike refl refl refl refl

pub only-read : OnlyRead
unfolding effect
only-read l held hash c a image e f =
    rw e
    (alike_unless (is_finished l hash c a.image) (alike refl refl refl refl) (λ n. unfinished_read l held hash c a image (f n)))

pub finished-leaves : FinishedLeaves
unfolding effect
finished-leaves l held hash c a e = rw e

-- ---- whether it is finished

blocks-hash-reads : (bs hash : List ℕ) {a b : List ℕ} → SameIn (In bs) a b → blocks_hash_to bs b hash ≡ blocks_hash_to bs a hash
unfolding blocks_hash_to
blocks-hash-reads bs hash f = rw (gathered-reads bs f)

pub finished_by_target : FinishedByTarget
unfolding is_finished target_blocks
finished_by_target l hash (command.Zero set) image other f = refl
finished_by_target l hash (command.Erase set) image other f = refl
finished_by_target l hash (command.New set) image other f = refl
finished_by_target l hash (command.Move target n source) image other f = blocks-hash-reads (blocks_at l target.at) hash f
finished_by_target l hash (command.Bsdiff target n source) image other f =
    blocks-hash-reads (blocks_at l target.at) (result_hash l (patching_of l).hashes) f
finished_by_target l hash (command.Stash set) image other f = refl
finished_by_target l hash command.Free image other f = refl
finished_by_target l hash command.Unsupported image other f = refl
finished_by_target l hash (command.Bad p) image other f = refl

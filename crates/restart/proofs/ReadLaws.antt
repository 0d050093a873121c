-- Functions of the lent areas that read some bytes and write others: they come to the same where only what they write may differ, and change no
-- other byte. Those that read none set what they write, whatever stood there.
-- Assumes nothing.
use mathlib.Core.Path.{◌≡◌, refl, sym, ap, subst, ◌∙◌}
use mathlib.Core.Bool.{Bool, false}
use mathlib.Core.List.{List}
use Prim.Native.Nat.{ℕ, ◌*◌, ◌/◌}
use lib.ListN.{length}
use Rattle.text.specs.Choice.{either}
use Rattle.state.specs.Limits.{block_bytes}
use Rattle.rules.specs.Move.{is_in}
use Rattle.updater.specs.Areas.{Areas, with_image, with_stash, with_work, with_result}
use Rattle.updater.specs.Steps.{Stepped}
use Rattle.restart.specs.Writes.{Spot, in_blocks, in_stash, in_front, Outside, AreasOutside}
use Rattle.restart.proofs.OutsideLaws.{outside-none, areas_eq, image_changed, stash_changed}
use Rattle.restart.proofs.OverwriteLaws.{Overwrites, overwritten_same, overwritten_only, within}

-- f reads areas a: of what it leaves no byte but W is changed, and it comes to the same where areas differ from a at W alone
pub record Reads {X : Type 0} (left : X → Areas) (W : Spot → Bool) (a : Areas) (f : Areas → X) : Type 0 where
  pub only : AreasOutside W a (left (f a))
  pub same : (b : Areas) → AreasOutside W a b → f b ≡ f a

abbrev pub step_left : Stepped → Areas
step_left s = s.areas

-- a step f that reads no byte: no byte but W is changed, and areas that differ at W agree there after it
pub record Sets (W : Spot → Bool) (a : Areas) (f : Areas → Stepped) : Type 0 where
  pub only : AreasOutside W a (f a).areas
  pub ends : (b : Areas) → (f b).end ≡ (f a).end
  pub agree : (L : Spot → Bool) (b : Areas) → AreasOutside (λ i. either (W i) (L i)) a b → AreasOutside L (f a).areas (f b).areas

-- ---- where areas may differ

same : {a b : List ℕ} → Outside (λ k. false) a b → b ≡ a
same o = outside-none (λ k. refl) o

in_image : (bs : List ℕ) (a b : Areas) → AreasOutside (in_blocks bs) a b → b ≡ with_image a b.image
unfolding in_blocks
in_image bs a b o = areas_eq refl (same o.stash) (same o.work) (same o.result) o.patch

pub in_stash_lem : (at n : ℕ) (a b : Areas) → AreasOutside (in_stash at n) a b → b ≡ with_stash a b.stash
unfolding in_stash
in_stash_lem at n a b o = areas_eq (same o.image) refl (same o.work) (same o.result) o.patch

pub in_front_lem : (n r : ℕ) (a b : Areas) → AreasOutside (in_front n r) a b → b ≡ with_result (with_work a b.work) b.result
unfolding in_front
in_front_lem n r a b o = areas_eq (same o.image) (same o.stash) refl refl o.patch

-- ---- writing one area, and reading others

module _ (a : Areas) where
  -- f writes the blocks bs of the image as g does
  pub image-reads : (bs : List ℕ) (f : Areas → Areas) (g : List ℕ → List ℕ) → ((image : List ℕ) → f (with_image a image) ≡ with_image a (g image)) →
      Overwrites (λ k. is_in (k / block_bytes) bs) (length a.image) g → Reads (λ b. b) (in_blocks bs) a f
  unfolding in_blocks
  image-reads bs f g e o =
      record {
        only = rw (e a.image) (image_changed _ a (overwritten_only o a.image refl));
        same = λ b d.
            subst (λ (x : Areas). f x ≡ f a) (sym (in_image bs a b d))
            (e b.image ∙ ap (with_image a) (overwritten_same o a.image b.image refl d.image) ∙ sym (e a.image));
      }

  -- f writes n blocks of the stash area as g does
  pub stash-reads : (at n : ℕ) (f : Areas → Areas) (g : List ℕ → List ℕ) → ((stash : List ℕ) → f (with_stash a stash) ≡ with_stash a (g stash)) →
      Overwrites (within (block_bytes * at) (block_bytes * n)) (length a.stash) g → Reads (λ b. b) (in_stash at n) a f
  unfolding in_stash
  stash-reads at n f g e o =
      record {
        only = rw (e a.stash) (stash_changed _ a (overwritten_only o a.stash refl));
        same = λ b d.
            subst (λ (x : Areas). f x ≡ f a) (sym (in_stash_lem at n a b d))
            (e b.stash ∙ ap (with_stash a) (overwritten_same o a.stash b.stash refl d.stash) ∙ sym (e a.stash));
      }

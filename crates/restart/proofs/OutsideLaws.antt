-- Areas that agree outside some bytes, and all areas of a configuration that do.
-- Assumes nothing.
use mathlib.Core.Path.{◌≡◌, refl, sym, ◌∙◌}
use mathlib.Core.Bool.{Bool, false}
use mathlib.Core.List.{List}
use Prim.Native.Nat.{ℕ, ◌+◌, ◌≤◌, ◌<◌}
use native.Mathlib.Omega.{arith}
use lib.ListN.{length, take, drop, length-take, length-drop}
use lib.Seq.{get_or-take, get_or-drop, ext_get_or}
use Rattle.updater.specs.Areas.{Areas, with_image, with_stash, with_work, with_result}
use Rattle.restart.specs.Writes.{Spot, image_byte, stash_byte, work_byte, result_byte, Outside, AreasOutside}

-- ---- one area

pub outside-same : (W : ℕ → Bool) (a : List ℕ) → Outside W a a
outside-same W a = record { size = refl; others = λ k h. refl }

pub outside_wider : (L W : ℕ → Bool) (a b : List ℕ) → ((k : ℕ) → W k ≡ false → L k ≡ false) → Outside L a b → Outside W a b
outside_wider L W a b h o = record { size = o.size; others = λ k e. o.others k (h k e) }

pub outside-then : (W : ℕ → Bool) (a b c : List ℕ) → Outside W a b → Outside W b c → Outside W a c
outside-then W a b c x y = record { size = y.size ∙ x.size; others = λ k h. y.others k h ∙ x.others k h }

-- areas that agree everywhere are equal
pub outside-none : {W : ℕ → Bool} {a b : List ℕ} → ((k : ℕ) → W k ≡ false) → Outside W a b → b ≡ a
outside-none {W} {a} {b} h o = ext_get_or 0 b a o.size (λ i l. o.others i (h i))

-- a part where they agree is the same
pub outside_part : (W : ℕ → Bool) (a b : List ℕ) (at n : ℕ) → Outside W a b → ((k : ℕ) → at ≤ k → k < at + n → W k ≡ false) →
    take n (drop at b) ≡ take n (drop at a)
outside_part W a b at n o h =
    let size = o.size in
    let same : length (take n (drop at b)) ≡ length (take n (drop at a)) = simp (length-take, length-drop) (omega arith) in
    ext_get_or 0 (take n (drop at b)) (take n (drop at a)) same
    (λ i m.
    let below : i < n = omega (arith, length-take n (drop at b)) in
    get_or-take n (drop at b) i 0 below
    ∙ get_or-drop at b i 0
    ∙ o.others (at + i) (h (at + i) (omega arith) (omega arith))
    ∙ sym (get_or-take n (drop at a) i 0 below ∙ get_or-drop at a i 0))

-- ---- all of them

pub areas_eq : {a b : Areas} → b.image ≡ a.image → b.stash ≡ a.stash → b.work ≡ a.work → b.result ≡ a.result → b.patch ≡ a.patch → b ≡ a
areas_eq e f g h k = rw (e, f, g, h, k)

module _ (W : Spot → Bool) where
  pub areas-same : (a : Areas) → AreasOutside W a a
  areas-same a =
      record {
        image = outside-same _ a.image;
        stash = outside-same _ a.stash;
        work = outside-same _ a.work;
        result = outside-same _ a.result;
        patch = refl;
      }

  pub areas-wider : (L : Spot → Bool) (a b : Areas) → ((i : Spot) → W i ≡ false → L i ≡ false) → AreasOutside L a b → AreasOutside W a b
  areas-wider L a b h o =
      record {
        image = outside_wider _ _ _ _ (λ k. h (image_byte k)) o.image;
        stash = outside_wider _ _ _ _ (λ k. h (stash_byte k)) o.stash;
        work = outside_wider _ _ _ _ (λ k. h (work_byte k)) o.work;
        result = outside_wider _ _ _ _ (λ k. h (result_byte k)) o.result;
        patch = o.patch;
      }

  pub areas-then : (a b c : Areas) → AreasOutside W a b → AreasOutside W b c → AreasOutside W a c
  areas-then a b c o t =
      record {
        image = outside-then _ _ _ _ o.image t.image;
        stash = outside-then _ _ _ _ o.stash t.stash;
        work = outside-then _ _ _ _ o.work t.work;
        result = outside-then _ _ _ _ o.result t.result;
        patch = t.patch ∙ o.patch;
      }

  pub areas-none : (a b : Areas) → ((i : Spot) → W i ≡ false) → AreasOutside W a b → b ≡ a
  areas-none a b h o =
      areas_eq
      (outside-none (λ k. h (image_byte k)) o.image)
      (outside-none (λ k. h (stash_byte k)) o.stash)
      (outside-none (λ k. h (work_byte k)) o.work)
      (outside-none (λ k. h (result_byte k)) o.result)
      o.patch

  -- one area alone is changed
  module _ (a : Areas) {area : List ℕ} where
    pub image_changed : Outside (λ k. W (image_byte k)) a.image area → AreasOutside W a (with_image a area)
    image_changed o =
        record { image = o; stash = outside-same _ a.stash; work = outside-same _ a.work; result = outside-same _ a.result; patch = refl }

    pub stash_changed : Outside (λ k. W (stash_byte k)) a.stash area → AreasOutside W a (with_stash a area)
    stash_changed o =
        record { image = outside-same _ a.image; stash = o; work = outside-same _ a.work; result = outside-same _ a.result; patch = refl }

    pub work_changed : Outside (λ k. W (work_byte k)) a.work area → AreasOutside W a (with_work a area)
    work_changed o =
        record { image = outside-same _ a.image; stash = outside-same _ a.stash; work = o; result = outside-same _ a.result; patch = refl }

    pub result_changed : Outside (λ k. W (result_byte k)) a.result area → AreasOutside W a (with_result a area)
    result_changed o =
        record { image = outside-same _ a.image; stash = outside-same _ a.stash; work = outside-same _ a.work; result = o; patch = refl }

-- Document 01, "The lent areas", and document 02, R-4: what a caller lends besides the list and the piece, as one record. The patch data is
-- read and never written.
-- Assumes nothing: these are definitions.
use Rattle.std.specs.Prelude.{◌≡◌, ℕ, List, length}

pub record Areas : Type 0 where
  pub image : List ℕ
  pub stash : List ℕ
  pub work : List ℕ
  pub result : List ℕ
  pub patch : List ℕ

abbrev pub areas_of : List ℕ → List ℕ → List ℕ → List ℕ → List ℕ → Areas
areas_of image stash work result patch = record { image = image; stash = stash; work = work; result = result; patch = patch }

-- with another image
abbrev pub with_image : Areas → List ℕ → Areas
with_image a image = areas_of image a.stash a.work a.result a.patch

-- with another stash area
abbrev pub with_stash : Areas → List ℕ → Areas
with_stash a stash = areas_of a.image stash a.work a.result a.patch

-- with another work area
abbrev pub with_work : Areas → List ℕ → Areas
with_work a work = areas_of a.image a.stash work a.result a.patch

-- with another result area
abbrev pub with_result : Areas → List ℕ → Areas
with_result a result = areas_of a.image a.stash a.work result a.patch

-- each is as long as it was
pub record SameLengths (a b : Areas) : Type 0 where
  pub image : length b.image ≡ length a.image
  pub stash : length b.stash ≡ length a.stash
  pub work : length b.work ≡ length a.work
  pub result : length b.result ≡ length a.result
  pub patch : length b.patch ≡ length a.patch

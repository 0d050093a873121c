-- What follows an answer: by cases, and where m was read, which is x.
-- Assumes nothing.
use mathlib.Core.Path.{◌≡◌, refl, sym, ap, ◌∙◌}
use Prim.Native.Nat.{ℕ}
use Rattle.std.specs.Prelude.{Result, Ok, Err}
use Rattle.text.specs.Read.{Read, on_read, on_result}

pub on_read_lem : {A B : Type 0} (P : B → Type 0) (x : Read A) (good : A → ℕ → B) (bad : ℕ → B) →
    ((v : A) (next : ℕ) → x ≡ Ok (v, next) → P (good v next)) → ((p : ℕ) → x ≡ Err p → P (bad p)) → P (on_read x good bad)
on_read_lem P (Ok (v, next)) good bad f g = f v next refl
on_read_lem P (Err p) good bad f g = g p refl

pub on_result_lem : {A E B : Type 0} (P : B → Type 0) (x : Result A E) (good : A → B) (bad : E → B) → ((v : A) → x ≡ Ok v → P (good v)) →
    ((e : E) → x ≡ Err e → P (bad e)) → P (on_result x good bad)
on_result_lem P (Ok v) good bad f g = f v refl
on_result_lem P (Err e) good bad f g = g e refl

module _ {A B : Type 0} {a : B} (x : Read A) (good : A → ℕ → B) (bad : ℕ → B) {m : Read A} (is : m ≡ x) where
  pub read-good : {v : A} {next : ℕ} → m ≡ Ok (v, next) → a ≡ good v next → a ≡ on_read x good bad
  read-good e h = rw (sym is ∙ e) h

  pub read-fault : {p : ℕ} → m ≡ Err p → a ≡ bad p → a ≡ on_read x good bad
  read-fault e h = rw (sym is ∙ e) h

module _ {A E B : Type 0} {a : B} (x : Result A E) (good : A → B) (bad : E → B) {m : Result A E} (is : m ≡ x) where
  pub result-good : {v : A} → m ≡ Ok v → a ≡ good v → a ≡ on_result x good bad
  result-good e h = rw (sym is ∙ e) h

  pub result-fault : {e : E} → m ≡ Err e → a ≡ bad e → a ≡ on_result x good bad
  result-fault e h = rw (sym is ∙ e) h

-- two equal answers read the same, up to the same position
pub read-same : {A : Type 0} {x y : A} {i j : ℕ} → ◌≡◌ {A = Read A} (Ok (x, i)) (Ok (y, j)) → (x ≡ y) × (i ≡ j)
read-same {A} {x} {y} {i} {j} e = let p : ◌≡◌ {A = A × ℕ} (x, i) (y, j) = cc in (ap (λ (q : A × ℕ). q.0) p, ap (λ (q : A × ℕ). q.1) p)

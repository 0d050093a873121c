-- A number of which something is asked, and what follows it: the reader's answer is the first fault, whatever may follow the number, if that
-- begins with no digit. It needs that `can_meet` is true of the digits read so far exactly if some number that is asked for begins with them.
-- Assumes nothing.
use mathlib.Core.Path.{◌≡◌, refl, sym, subst}
use mathlib.Core.Bool.{Bool, true, false}
use mathlib.Core.Logic.{inl, inr, ⊎_elim}
use Prim.Native.Nat.{ℕ, zero, suc, ◌-◌, ◌≤◌}
use native.Mathlib.Omega.{arith}
use mathlib.Core.List.{List, [], ◌∷◌, ◌++◌}
use lib.ListN.{drop}
use lib.Dec.{leb, ltb, eqb}
use borrow.Author.Tests.{leb-true, ltb-true, le-leb, lt-ltb, ne_eqb}
use Rattle.text.specs.Choice.{pick, both}
use Rattle.text.specs.Expected.{lf}
use Rattle.text.specs.Number.{largest, is_digit, then, meets, can_meet, end_of, digits, number_from, number_for}
use Rattle.text.specs.declared.number.Need.{Need}
use Rattle.text.proofs.ChoiceLaws.{picks, both_true, both_is}
use Rattle.text.proofs.NumberLaws.{digit_low}
use Rattle.text.proofs.NeedLaws.{Written, last, more, digit-most, need-holds}
use Rattle.faults.specs.Language.{Language, GoesOn, Finding, fault}
use Rattle.faults.specs.Lines.{Digits, NumberThat}
use Rattle.faults.proofs.LanguageLaws.{Reads, Starting, starting, fault_here_lem, step, same, same_start}
use Rattle.faults.proofs.Seen.{seen, OnlyLf}
use Rattle.std.specs.Prelude.{Ok, Err}
use Rattle.text.specs.Read.{Read}

pub clash : {t : Bool} → t ≡ true → t ≡ false → ⊥
clash e f = let z : ◌≡◌ {A = ℕ} 0 1 = cc in omega arith

digit-no_lf : (b : ℕ) → is_digit b ≡ true → eqb b lf ≡ false
digit-no_lf b e = ne_eqb b lf (λ h. omega (arith, digit_low b e))

-- ---- how a number is written

pub written-most : {v w : ℕ} {s t : List ℕ} → Written v w s t → v ≤ largest → w ≤ largest
written-most last l = l
written-most (more d p m x) l = written-most x m

written-before : {v w : ℕ} {s t : List ℕ} → Written v w s t → (r : List ℕ) → Written v w (s ++ r) (t ++ r)
written-before last r = last
written-before (more d p m x) r = more d p m (written-before x r)

module _ (test : ℕ → Bool) (K : ℕ → Language) where
  ends : (v : ℕ) (s : List ℕ) → test v ≡ true → K v s → Digits test K v s
  unfolding Digits
  ends v [] e k = (e, k)
  ends v (b ∷ s) e k = inl (e, k)

  -- the grammar's numbers are written so
  pub digits_of : {v w : ℕ} {s t : List ℕ} → Written v w s t → test w ≡ true → K w t → Digits test K v s
  unfolding Digits
  digits_of (last {v} {t}) e k = ends v t e k
  digits_of (more d p m x) e k = inr (d, p, m, digits_of x e k)

  pub written_of : (v : ℕ) (s : List ℕ) → Digits test K v s → (w : ℕ) × (t : List ℕ) × Written v w s t × (test w ≡ true) × K w t
  unfolding Digits
  written_of v [] d = (v, [], last, d.0, d.1)
  written_of v (b ∷ s) (inl d) = (v, b ∷ s, last, d.0, d.1)
  written_of v (b ∷ s) (inr d) = let x = written_of (then v b) s d.3 in (x.0, x.1, more d.0 d.1 d.2 x.2, x.3, x.4)

-- a number of one language is one of another, if it passes that one's test and what follows it may follow there
pub number-to : {test other : ℕ → Bool} {K L : ℕ → Language} →
    ((w : ℕ) (t : List ℕ) → w ≤ largest → test w ≡ true → K w t → (other w ≡ true) × L w t) → (s : List ℕ) → NumberThat test K s → NumberThat other L s
unfolding NumberThat
number-to to [] d = d
number-to {test} {other} {K} {L} to (b ∷ s) d =
    let x = written_of test K (b - 48) s d.1 in
    let y = to x.0 x.1 (written-most x.2 (omega (arith, digit-most b d.0))) x.3 x.4 in
    (d.0, digits_of other L x.2 y.0 y.1)

-- ---- what is asked of a need

-- a number that is asked for begins with the digits of v if `can_meet` says so (only then, by `need-holds`); and some digit begins one
pub record Exact (n : Need) : Type 0 where
  pub digit : ℕ
  pub is_digit : is_digit digit ≡ true
  pub starts : can_meet n (digit - 48) ≡ true
  pub grows : (v : ℕ) → v ≤ largest → can_meet n v ≡ true → (w : ℕ) × (s : List ℕ) × Written v w s [] × (meets n w ≡ true)

module _ (n : Need) (x : Exact n) (K : ℕ → Language) (alive : (w : ℕ) → meets n w ≡ true → w ≤ largest → GoesOn (K w) []) where
  digits-alive : (v : ℕ) → v ≤ largest → can_meet n v ≡ true → GoesOn (Digits (meets n) K v) []
  digits-alive v l e =
      let g = x.grows v l e in
      let k = alive g.0 g.3 (written-most g.2 l) in
      (g.1 ++ k.0, digits_of (meets n) K (written-before g.2 k.0) g.3 k.1)

  pub number-alive : GoesOn (NumberThat (meets n) K) []
  unfolding NumberThat
  number-alive =
      let d = digits-alive (x.digit - 48) (omega (arith, digit-most x.digit x.is_digit)) x.starts in
      (x.digit ∷ d.0, (x.is_digit, d.1))

-- ---- the reader. f says how the whole ends, by the reader's answer; what follows the number stands at `from` or later

drop_tail : (s : List ℕ) (i b : ℕ) (bs : List ℕ) → b ∷ bs ≡ drop i s → bs ≡ drop (suc i) s
drop_tail [] zero b bs e = absurd (let z : ◌≡◌ {A = ℕ} 0 1 = cc in omega arith)
drop_tail [] (suc i) b bs e = absurd (let z : ◌≡◌ {A = ℕ} 0 1 = cc in omega arith)
drop_tail (c ∷ s) zero b bs e = cc
drop_tail (c ∷ s) (suc i) b bs e = drop_tail s i b bs e

module _ (stop : ℕ → Bool) (only : OnlyLf stop) (n : Need) (x : Exact n) (K : ℕ → Language)
    (apart : (w b : ℕ) (t : List ℕ) → is_digit b ≡ true → K w (b ∷ t) → ⊥) (s : List ℕ) (from : ℕ) (f : Read ℕ → Finding)
    (bad : (p : ℕ) → f (Err p) ≡ fault p)
    (follows : (w next : ℕ) → from ≤ next → meets n w ≡ true → w ≤ largest → Reads (K w) next (seen stop (drop next s)) (f (Ok (w, next)))) where
  abbrev D : ℕ → Language
  D = Digits (meets n) K

  alive : (w : ℕ) → meets n w ≡ true → w ≤ largest → GoesOn (K w) []
  alive w e l = (follows w from (omega arith) e l).alive

  -- a fault here
  faults : (L : Language) (i : ℕ) (bs : List ℕ) → GoesOn L [] → Starting bs (λ t. L t → ⊥) → Reads L i bs (f (Err i))
  faults L i bs a none = rw (bad i) (fault_here_lem bs a none)

  -- the number v ends before t, if it can be so at all
  abbrev Ends : ℕ → List ℕ → Type 0
  Ends v t = D v t → (meets n v ≡ true) × K v t

  end_reads : (v i : ℕ) (bs : List ℕ) → from ≤ i → v ≤ largest → can_meet n v ≡ true → bs ≡ drop i s →
      Starting (seen stop bs) (Ends v) → Reads (D v) i (seen stop bs) (f (end_of n v i))
  unfolding end_of
  end_reads v i bs o l c d here =
      picks (λ r. Reads (D v) i (seen stop bs) (f r)) (meets n v) (Ok (v, i)) (Err i)
      (λ e. same_start (λ t k. ends (meets n) K v t e k) (starting (Ends v) (λ t. D v t → K v t) (seen stop bs) (λ t h z. (h z).1) here)
      (subst (λ bs. Reads (K v) i (seen stop bs) (f (Ok (v, i)))) (sym d) (follows v i o e l)))
      (λ e. faults (D v) i (seen stop bs) (digits-alive n x K alive v l c)
      (starting (Ends v) (λ t. D v t → ⊥) (seen stop bs) (λ t h z. clash (h z).0 e) here))

  -- a further digit is good exactly if it passes the reader's test
  passes : (v b : ℕ) → Bool
  passes v b = both (ltb 0 v) (both (leb (then v b) largest) (can_meet n (then v b)))

  digits-reads : (v i : ℕ) (bs : List ℕ) → from ≤ i → v ≤ largest → can_meet n v ≡ true → bs ≡ drop i s →
      Reads (D v) i (seen stop bs) (f (digits n v i bs))
  unfolding digits Digits passes
  digits-reads v i [] o l c d = end_reads v i [] o l c d (λ z. z)
  digits-reads v i (b ∷ bs) o l c d =
      picks (λ r. Reads (D v) i (seen stop (b ∷ bs)) (f r)) (is_digit b) (pick (passes v b) (digits n (then v b) (suc i) bs) (Err i)) (end_of n v i)
      (λ digit. picks (λ r. Reads (D v) i (seen stop (b ∷ bs)) (f r)) (passes v b) (digits n (then v b) (suc i) bs) (Err i)
      (λ e. goes digit e (λ l c. digits-reads (then v b) (suc i) bs (omega arith) l c (drop_tail s i b bs d)))
      (λ e. faults (D v) i (seen stop (b ∷ bs)) (digits-alive n x K alive v l c) (no_more digit e)))
      (λ e. end_reads v i (b ∷ bs) o l c d (no_digit e))
    where
      no_digit : is_digit b ≡ false → (t : List ℕ) → Ends v (b ∷ t)
      no_digit e t = ⊎_elim (λ z. z) (λ z. absurd (clash z.0 e))

      no_more : is_digit b ≡ true → passes v b ≡ false → (t : List ℕ) → D v (b ∷ t) → ⊥
      no_more digit e t = ⊎_elim
          (λ z. apart v b t digit z.1)
          (λ z. let y = written_of (meets n) K (then v b) t z.3 in
          clash (both_is (lt-ltb 0 v z.1) (both_is (le-leb (then v b) largest z.2) (need-holds n y.2 z.2 y.3))) e)

      goes : is_digit b ≡ true → passes v b ≡ true →
          (then v b ≤ largest → can_meet n (then v b) ≡ true → Reads (D (then v b)) (suc i) (seen stop bs) (f (digits n (then v b) (suc i) bs))) →
          Reads (D v) i (seen stop (b ∷ bs)) (f (digits n (then v b) (suc i) bs))
      goes digit e rest =
          let p = both_true (ltb 0 v) (both (leb (then v b) largest) (can_meet n (then v b))) e in
          let q = both_true (leb (then v b) largest) (can_meet n (then v b)) p.1 in
          let m = leb-true (then v b) largest q.0 in
          rw (only b (digit-no_lf b digit))
          (step (same (λ t k. inr (digit, ltb-true 0 v p.0, m, k)) (λ t. ⊎_elim (λ z. absurd (apart v b t digit z.1)) (λ z. z.3))
          (rest m q.1)))

  number-reads : (i : ℕ) (bs : List ℕ) → from ≤ i → bs ≡ drop i s → Reads (NumberThat (meets n) K) i (seen stop bs) (f (number_from n i bs))
  unfolding number_from NumberThat
  number-reads i [] o d = faults (NumberThat (meets n) K) i [] (number-alive n x K alive) (λ z. z)
  number-reads i (b ∷ bs) o d =
      picks (λ r. Reads (NumberThat (meets n) K) i (seen stop (b ∷ bs)) (f r)) (both (is_digit b) (can_meet n (b - 48)))
      (digits n (b - 48) (suc i) bs) (Err i)
      (λ e. goes (both_true (is_digit b) (can_meet n (b - 48)) e).0 (both_true (is_digit b) (can_meet n (b - 48)) e).1)
      (λ e. faults (NumberThat (meets n) K) i (seen stop (b ∷ bs)) (number-alive n x K alive) (no-first e))
    where
      goes : is_digit b ≡ true → can_meet n (b - 48) ≡ true →
          Reads (NumberThat (meets n) K) i (seen stop (b ∷ bs)) (f (digits n (b - 48) (suc i) bs))
      goes digit c =
          rw (only b (digit-no_lf b digit))
          (step (same (λ t k. (digit, k)) (λ t z. z.1)
          (digits-reads (b - 48) (suc i) bs (omega arith) (omega (arith, digit-most b digit)) c (drop_tail s i b bs d))))

      no-first : both (is_digit b) (can_meet n (b - 48)) ≡ false → (t : List ℕ) → NumberThat (meets n) K (b ∷ t) → ⊥
      no-first e t z =
          let y = written_of (meets n) K (b - 48) t z.1 in
          clash (both_is z.0 (need-holds n y.2 (omega (arith, digit-most b z.0)) y.3)) e

  -- a number at a position, and what follows it
  pub number-found : (at : ℕ) → from ≤ at → Reads (NumberThat (meets n) K) at (seen stop (drop at s)) (f (number_for n s at))
  unfolding number_for
  number-found at o = number-reads at (drop at s) o refl

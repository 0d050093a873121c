-- First faults: how one is found byte by byte, and carried from one language to another; and that none is later than another.
-- Assumes nothing.
use mathlib.Core.Path.{◌≡◌, refl}
use mathlib.Core.Bool.{true, false}
use mathlib.Core.Logic.{◌⊎◌, inl, inr, ⊎_elim}
use Prim.Native.Nat.{ℕ, zero, suc, ◌≤◌, max}
use native.Mathlib.Omega.{arith}
use mathlib.Core.List.{List, [], ◌∷◌, ◌++◌}
use lib.ListN.{take}
use lib.Dec.{leb, ltb}
use borrow.Author.Tests.{leb-true, leb-false, ltb-true, ltb-false}
use Rattle.text.proofs.ChoiceLaws.{bool}
use Rattle.faults.specs.Language.{Language, GoesOn, FirstFault, Finding, good, fault, Found, Byte, Or}

-- what is found of a text is so; and some text is good. A record, so that what it speaks of can be read off it
pub record Reads (L : Language) (i : ℕ) (s : List ℕ) (r : Finding) : Type 0 where
  pub alive : GoesOn L []
  pub found : Found L i s r

-- P of every text that starts as s does: with the same byte, or it is empty as s is
abbrev pub Starting : List ℕ → (List ℕ → Type 0) → Type 0
Starting [] P = P []
Starting (b ∷ s) P = (t : List ℕ) → P (b ∷ t)

pub starting : (P Q : List ℕ → Type 0) (s : List ℕ) → ((t : List ℕ) → P t → Q t) → Starting s P → Starting s Q
starting P Q [] f h = f [] h
starting P Q (b ∷ s) f h = λ t. f (b ∷ t) (h t)

-- s starts with the byte m
abbrev pub Starts : List ℕ → ℕ → Type 0
Starts [] m = ⊥
Starts (b ∷ s) m = b ≡ m

-- ---- a fault here: no good text starts as this one does

pub fault_here_lem : {L : Language} {i : ℕ} (s : List ℕ) → GoesOn L [] → Starting s (λ t. L t → ⊥) → Reads L i s (fault i)
fault_here_lem {L} {i} s alive none = record { alive = alive; found = go s none }
  where
    go : (s : List ℕ) → Starting s (λ t. L t → ⊥) → FirstFault L i s i
    go [] none =
        record { before = 0; place = omega arith; within = omega arith; goes = alive; stops = λ h v. omega arith; ill = none }
    go (b ∷ s) none =
        record {
          before = 0;
          place = omega arith;
          within = omega arith;
          goes = alive;
          stops = λ h v. none v.0 v.1;
          ill = none s;
        }

-- ---- one byte further

further : (L : Language) (i b : ℕ) (bs : List ℕ) (r : Finding) → Found (λ s. L (b ∷ s)) (suc i) bs r → Found L i (b ∷ bs) r
further L i b bs good f = f
further L i b bs (fault p) f =
    record {
      before = suc f.before;
      place = omega arith;
      within = omega arith;
      goes = f.goes;
      stops = λ h v. f.stops (omega arith) v;
      ill = f.ill;
    }

pub step : {L : Language} {i b : ℕ} {bs : List ℕ} {r : Finding} → Reads (λ s. L (b ∷ s)) (suc i) bs r → Reads L i (b ∷ bs) r
step {L} {i} {b} {bs} {r} x = record { alive = (b ∷ x.alive.0, x.alive.1); found = further L i b bs r x.found }

-- ---- two languages that have the same texts among those that start as this one does

module _ {K L : Language} (to : (t : List ℕ) → K t → L t) where
  carried : (i : ℕ) (s : List ℕ) (r : Finding) → Starting s (λ t. L t → K t) → Found K i s r → Found L i s r
  carried i s good back f = to s f
  carried i [] (fault p) back f =
      record {
        before = f.before;
        place = f.place;
        within = f.within;
        goes = (f.goes.0, to _ f.goes.1);
        stops = λ h v. omega arith;
        ill = λ l. f.ill (back l);
      }
  carried i (b ∷ s) (fault p) back f =
      record {
        before = f.before;
        place = f.place;
        within = f.within;
        goes = (f.goes.0, to _ f.goes.1);
        stops = λ h v. f.stops h (v.0, back _ v.1);
        ill = λ l. f.ill (back s l);
      }

  pub same_start : {i : ℕ} {s : List ℕ} {r : Finding} → Starting s (λ t. L t → K t) → Reads K i s r → Reads L i s r
  same_start {i} {s} {r} back x = record { alive = (x.alive.0, to _ x.alive.1); found = carried i s r back x.found }

  pub same : {i : ℕ} {s : List ℕ} {r : Finding} → ((t : List ℕ) → L t → K t) → Reads K i s r → Reads L i s r
  same {s} back = same_start (every s)
    where
      every : (s : List ℕ) → Starting s (λ t. L t → K t)
      every [] = back []
      every (b ∷ s) = λ t. back (b ∷ t)

-- ---- one language or the other, where the first byte decides

module _ {K L : Language} {i : ℕ} {s : List ℕ} {r : Finding} where
  pub or_left : Starting s (λ t. L t → ⊥) → Reads K i s r → Reads (Or K L) i s r
  or_left none =
      same_start (λ t k. inl k) (starting (λ t. L t → ⊥) (λ t. Or K L t → K t) s (λ t h. ⊎_elim (λ k. k) (λ l. absurd (h l))) none)

  pub or_right : Starting s (λ t. K t → ⊥) → Reads L i s r → Reads (Or K L) i s r
  or_right none =
      same_start (λ t l. inr l) (starting (λ t. K t → ⊥) (λ t. Or K L t → L t) s (λ t h. ⊎_elim (λ k. absurd (h k)) (λ l. l)) none)

-- ---- the character m

module _ (m : ℕ) (K : Language) where
  pub byte-alive : GoesOn K [] → GoesOn (Byte m K) []
  unfolding Byte
  byte-alive a = (m ∷ a.0, (refl, a.1))

  -- its texts start with m
  pub byte-start : (s : List ℕ) → Starting s (λ t. Byte m K t → Starts s m)
  unfolding Byte
  byte-start [] = λ d. d
  byte-start (b ∷ s) = λ t d. d.0

  pub byte-other : {i : ℕ} (s : List ℕ) → GoesOn K [] → (Starts s m → ⊥) → Reads (Byte m K) i s (fault i)
  byte-other s a none =
      fault_here_lem s (byte-alive a) (starting (λ t. Byte m K t → Starts s m) (λ t. Byte m K t → ⊥) s (λ t h d. none (h d)) (byte-start s))

  pub byte_past : {i b : ℕ} {bs : List ℕ} {r : Finding} → b ≡ m → Reads K (suc i) bs r → Reads (Byte m K) i (b ∷ bs) r
  unfolding Byte
  byte_past e x = step (same (λ s k. (e, k)) (λ s l. l.1) x)

-- ---- no first fault of a text is later than another

shorter : (L : Language) (s : List ℕ) (m n : ℕ) → m ≤ n → GoesOn L (take n s) → GoesOn L (take m s)
shorter L s zero n h v = (take n s ++ v.0, v.1)
shorter L s (suc m) zero h v = absurd (omega arith)
shorter L [] (suc m) (suc n) h v = v
shorter L (b ∷ s) (suc m) (suc n) h v = shorter (λ t. L (b ∷ t)) s m n (omega arith) v

pub not-later : {L : Language} {i : ℕ} {s : List ℕ} {p q : ℕ} → FirstFault L i s p → FirstFault L i s q → q ≤ p
not-later {L} {s} {p} {q} f g = ⊎_elim
    (λ e. absurd (let l = ltb-true f.before g.before e in
    f.stops (omega (arith, g.within)) (shorter L s (suc f.before) g.before l g.goes)))
    (λ e. omega (arith, ltb-false f.before g.before e, f.place, g.place))
    (bool (ltb f.before g.before))

-- ---- one language or the other, where both are at fault: the later fault is the whole's

later : {K L M : Language} {i : ℕ} {s : List ℕ} {p q : ℕ} → ((t : List ℕ) → L t → M t) → ((t : List ℕ) → M t → K t ⊎ L t) →
    p ≤ q → FirstFault K i s p → FirstFault L i s q → FirstFault M i s q
later {K} {s} to from h f g =
    record {
      before = g.before;
      place = g.place;
      within = g.within;
      goes = (g.goes.0, to _ g.goes.1);
      stops = λ o v. ⊎_elim
          (λ k. f.stops (omega (arith, f.place, g.place, o))
          (shorter K s (suc f.before) (suc g.before) (omega (arith, f.place, g.place)) (v.0, k)))
          (λ l. g.stops o (v.0, l))
          (from _ v.1);
      ill = λ m. ⊎_elim f.ill g.ill (from s m);
    }

pub or_later : {K L : Language} {i : ℕ} {s : List ℕ} {p q : ℕ} → Reads K i s (fault p) → Reads L i s (fault q) →
    Reads (Or K L) i s (fault (max p q))
or_later {K} {L} {i} {s} {p} {q} x y = record { alive = (x.alive.0, inl x.alive.1); found = ⊎_elim first second (bool (leb p q)) }
  where
    first : leb p q ≡ true → FirstFault (Or K L) i s (max p q)
    first e =
        let h = leb-true p q e in
        let m : max p q ≡ q = omega arith in
        rw m (later (λ t l. inr l) (λ t m. m) h x.found y.found)

    second : leb p q ≡ false → FirstFault (Or K L) i s (max p q)
    second e =
        let h = leb-false p q e in
        let m : max p q ≡ p = omega arith in
        rw m (later (λ t k. inl k) (λ t. ⊎_elim (λ k. inr k) (λ l. inl l)) (omega arith) y.found x.found)

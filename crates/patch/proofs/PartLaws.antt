-- Parts of an area that are lent one after the other, and written whole.
-- Assumes nothing.
use Rattle.std.proofs.Common.{◌≡◌, ℕ, ◌+◌, ◌-◌, List, [], ◌++◌, length, take, drop, ap, ◌∙◌, ap₂, append-nil, arith, length-drop, drop_of_length-le, take_all, take_at, drop_at}
use Rattle.copy.specs.Over.{front}
use Rattle.copy.proofs.OverLaws.{front_fits}

-- a part that goes to the end
pub to_end : (bytes : List ℕ) (n : ℕ) → take (length bytes - n) (drop n bytes) ≡ drop n bytes
to_end bytes n = take_all {A = ℕ} (length bytes - n) (drop n bytes) (omega (arith, length-drop n bytes))

-- as many bytes as the area has
pub front-all : (area bytes : List ℕ) → length bytes ≡ length area → front area bytes ≡ bytes
front-all area bytes h =
    front_fits area bytes (omega arith)
    ∙ ap (λ (x : List ℕ). bytes ++ x) (drop_of_length-le area {i = length bytes} (omega arith))
    ∙ append-nil bytes

-- the rest of an area whose first n bytes are written: bytes that fill it go over it whole
pub copied : (area first second bytes : List ℕ) (n : ℕ) → length first ≡ n → n + length bytes ≡ length area →
    second ≡ front (take (length (first ++ drop n area) - n) (drop n (first ++ drop n area))) bytes → second ≡ bytes
copied area first second bytes n l all e =
    let once = first ++ drop n area in
    let r : take (length once - n) (drop n once) ≡ drop n area = to_end once n ∙ drop_at first (drop n area) n l in
    e ∙ ap (λ (x : List ℕ). front x bytes) r ∙ front-all (drop n area) bytes (omega (arith, length-drop n area))

-- the first n bytes of an area, written, and then the others
pub both_back : (area first second : List ℕ) (n : ℕ) → length first ≡ n → n + length second ≡ length area →
    take n (first ++ drop n area) ++ (second ++ drop (length (first ++ drop n area) - n) (drop n (first ++ drop n area))) ≡ first ++ second
both_back area first second n l all =
    let once = first ++ drop n area in
    let none : drop (length once - n) (drop n once) ≡ [] =
    drop_of_length-le (drop n once) {i = length once - n} (omega (arith, length-drop n once)) in
    ap₂ (λ (x y : List ℕ). x ++ (second ++ y)) (take_at first (drop n area) n l) none
    ∙ ap (λ (x : List ℕ). first ++ x) (append-nil second)

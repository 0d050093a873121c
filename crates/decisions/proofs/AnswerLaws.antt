-- The answer line put together: a text after a text that stands at the start of a buffer, and digits as `decimal` has them.
-- Assumes nothing.
use Rattle.std.proofs.Common.{ℕ, zero, suc, ◌+◌, ◌-◌, ◌*◌, ◌/◌, ◌^◌, ◌≤◌, ◌<◌, ◌≡◌, sym, ◌∙◌, List, ◌++◌, arith, length, length-append, drop-drop, div-lt_iff_lt-mul, le-div_iff_mul-le, pow-suc, lt_of_not-le, lt-ltb, le-ltb}
use Rattle.std.proofs.Math.Nat.{div-lt_self, one-le-pow, pow-le-pow_right}
use Rattle.std.proofs.Math.Seq.{paste, take-append_seam, take-length, drop-append-add}
use Rattle.io.specs.Digits.{last_digits, IsDigitCount}
use Rattle.decisions.specs.Answer.{decimal_in, decimal, most_digits, starting_with, zeros, line_of}
use Rattle.decisions.specs.declared.answer.Line.{Line}

-- a text put after the one at the start of a buffer
pub put-after : (a b x : List ℕ) → paste (starting_with a x) (length a) b (length b) ≡ starting_with (a ++ b) x
put-after a b x = rw (take-append_seam, take-length, drop-append-add, drop-drop, length-append)

-- a text stands at the start of a buffer, and ends at n
pub record Stands (text buf out : List ℕ) (n : ℕ) : Type 0 where
  pub same : out ≡ starting_with text buf
  pub ends : n ≡ length text

pub stands_after : (a b : List ℕ) {x out next : List ℕ} {at n : ℕ} → Stands a x out at → n ≡ at + length b
    → next ≡ paste out at b (length b) → Stands (a ++ b) x next n
stands_after a b {x} s e p =
    record { same = p ∙ rw (s.same, s.ends) (put-after a b x); ends = e ∙ rw s.ends (sym (length-append a b)) }

pub line_of_lem : (text : List ℕ) {out : List ℕ} {n : ℕ} → Stands text zeros out n → ◌≡◌ {A = Line} (record { bytes = out; length = n }) (line_of text)
unfolding line_of
line_of_lem text s = rw (s.same, s.ends)

module _ (n k : ℕ) (f : IsDigitCount 10 1 n (suc (suc k))) where
  -- what the fewest digits say, with the digit before the last counted down
  least : 10 ^ suc k ≤ n
  least = let e : suc (suc k) - 1 ≡ suc k = omega arith in rw e at (f.2 (omega arith))

  -- a tenth has one digit less
  tenth : IsDigitCount 10 1 (n / 10) (suc k)
  tenth =
      let ten : 0 < 10 = omega arith in
      let e : suc k - 1 ≡ k = omega arith in
      (omega arith, (div-lt_iff_lt-mul {k = 10} {x = n} {y = 10 ^ suc k} ten).1 (rw pow-suc at f.1), λ h. rw e ((le-div_iff_mul-le {k = 10} {x = 10 ^ k} {y = n} ten).1 (rw pow-suc at least)))

  -- two digits: at least 10
  large : 10 ≤ n
  large = let h : 10 ^ k * 10 ≤ n = rw pow-suc at least in omega (arith, one-le-pow k 10 (omega arith))

-- a 64-bit number has at most 20 digits
pub most_digits_lem : (n k : ℕ) → n < 2 ^ 64 → IsDigitCount 10 1 n k → k ≤ most_digits
most_digits_lem n k h f =
    let fewer : k < 21 = lt_of_not-le (λ m. omega (arith, pow-le-pow_right {n = 10} (omega arith) {i = 20} {j = k - 1} (omega arith), f.2 (omega arith))) in
    omega arith

-- the fewest digits are those of the number in decimal
pub digits_in : (turns n k : ℕ) → n < turns → IsDigitCount 10 1 n k → last_digits 10 k n ≡ decimal_in turns n
unfolding decimal_in
digits_in zero n k h f = absurd (omega arith)
digits_in (suc t) n zero h f = absurd (omega arith)
digits_in (suc t) n (suc zero) h f = rw (lt-ltb n 10 (omega arith))
digits_in (suc t) n (suc (suc k)) h f =
    let ten = large n k f in
    let less = div-lt_self {n = n} {k = 10} (omega arith) (omega arith) in
    rw (le-ltb n 10 ten, digits_in t (n / 10) (suc k) (omega arith) (tenth n k f))

pub digits_decimal : (n k : ℕ) → IsDigitCount 10 1 n k → last_digits 10 k n ≡ decimal n
unfolding decimal
digits_decimal n k f = digits_in (suc n) n k (omega arith) f

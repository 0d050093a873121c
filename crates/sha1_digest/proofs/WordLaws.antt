-- Laws of words and their bytes. Assumes nothing.
use Rattle.std.proofs.Common.{◌≡◌, ℕ, zero, suc, ◌+◌, ◌-◌, ◌*◌, ◌/◌, ◌%◌, ◌^◌, ◌<◌, get_or, sym, refl, ap, ◌∙◌, arith}
use Rattle.std.specs.Int.{w32, w64, to_be_bytes}
use native.Mathlib.Nat.{mod-add-mod}
use lib.Bits.{bit_or, or_shifted}
use Rattle.sha1_digest.specs.Sha1 as S

-- a sum of five words may wrap at each step
pub sum_wraps : (v w x y z : ℕ) → ((((v + w) % 2 ^ 32 + x) % 2 ^ 32 + y) % 2 ^ 32 + z) % 2 ^ 32 ≡ (v + w + x + y + z) % 2 ^ 32
sum_wraps v w x y z = simp mod-add-mod

or_sum : (x y a k : ℕ) → x ≡ a * 2 ^ k → y < 2 ^ k → bit_or x y ≡ x + y
or_sum x y a k e h = rw e (or_shifted a k y h)

-- four bytes shifted into place and joined are their word
pub or_bytes : (b0 b1 b2 b3 : ℕ) → b0 < 256 → b1 < 256 → b2 < 256 → b3 < 256
    → bit_or (bit_or (bit_or (b0 * 2 ^ 24 % 2 ^ 32) (b1 * 2 ^ 16 % 2 ^ 32)) (b2 * 2 ^ 8 % 2 ^ 32)) b3
    ≡ b0 * 2 ^ 24 + b1 * 2 ^ 16 + b2 * 2 ^ 8 + b3
or_bytes b0 b1 b2 b3 h0 h1 h2 h3 =
    let e0 : b0 * 2 ^ 24 % 2 ^ 32 ≡ b0 * 2 ^ 24 = omega arith in
    let e1 : b1 * 2 ^ 16 % 2 ^ 32 ≡ b1 * 2 ^ 16 = omega arith in
    let e2 : b2 * 2 ^ 8 % 2 ^ 32 ≡ b2 * 2 ^ 8 = omega arith in
    let o1 : bit_or (b0 * 2 ^ 24) (b1 * 2 ^ 16) ≡ b0 * 2 ^ 24 + b1 * 2 ^ 16 = or_sum _ _ b0 24 refl (omega arith) in
    let o2 : bit_or (b0 * 2 ^ 24 + b1 * 2 ^ 16) (b2 * 2 ^ 8) ≡ b0 * 2 ^ 24 + b1 * 2 ^ 16 + b2 * 2 ^ 8
    = or_sum _ _ (b0 * 2 ^ 8 + b1) 16 (omega arith) (omega arith) in
    let o3 : bit_or (b0 * 2 ^ 24 + b1 * 2 ^ 16 + b2 * 2 ^ 8) b3 ≡ b0 * 2 ^ 24 + b1 * 2 ^ 16 + b2 * 2 ^ 8 + b3
    = or_sum _ _ (b0 * 2 ^ 16 + b1 * 2 ^ 8 + b2) 8 (omega arith) (omega arith) in
    cc

-- ---- `bytes n x`

-- they are what `to_be_bytes` gives
pub be_bytes_four : (x : ℕ) → to_be_bytes w32 x ≡ S.bytes 4 x
unfolding S.bytes
be_bytes_four x =
    let e : x ≡ x / 1 = omega arith in
    cc

pub be_bytes_eight : (x : ℕ) → to_be_bytes w64 x ≡ S.bytes 8 x
unfolding S.bytes
be_bytes_eight x =
    let e : x ≡ x / 1 = omega arith in
    cc

pub bytes_at_lem : (n x j : ℕ) → j < n → get_or (S.bytes n x) j 0 ≡ x / 2 ^ (8 * (n - 1 - j)) % 256
unfolding S.bytes
bytes_at_lem zero x j h = absurd (omega arith)
bytes_at_lem (suc n) x zero h = ap (λ (k : ℕ). x / 2 ^ k % 256) (omega arith)
bytes_at_lem (suc n) x (suc j) h = bytes_at_lem n x j (omega arith) ∙ ap (λ (k : ℕ). x / 2 ^ k % 256) (omega arith)

pub bytes_below : (n x k : ℕ) → get_or (S.bytes n x) k 0 < 256
unfolding S.bytes
bytes_below zero x k = omega arith
bytes_below (suc n) x zero = omega arith
bytes_below (suc n) x (suc k) = bytes_below n x k

same_eight : (x y : ℕ)
    → x / 2 ^ 56 % 256 ≡ y / 2 ^ 56 % 256
    → x / 2 ^ 48 % 256 ≡ y / 2 ^ 48 % 256
    → x / 2 ^ 40 % 256 ≡ y / 2 ^ 40 % 256
    → x / 2 ^ 32 % 256 ≡ y / 2 ^ 32 % 256
    → x / 2 ^ 24 % 256 ≡ y / 2 ^ 24 % 256
    → x / 2 ^ 16 % 256 ≡ y / 2 ^ 16 % 256
    → x / 2 ^ 8 % 256 ≡ y / 2 ^ 8 % 256
    → x / 2 ^ 0 % 256 ≡ y / 2 ^ 0 % 256
    → S.bytes 8 x ≡ S.bytes 8 y
unfolding S.bytes
same_eight x y e7 e6 e5 e4 e3 e2 e1 e0 = cc

-- eight bytes keep a number modulo 2 ^ 64
bytes_wrap : (x : ℕ) → S.bytes 8 (x % 2 ^ 64) ≡ S.bytes 8 x
bytes_wrap x =
    same_eight (x % 2 ^ 64) x
    (omega arith) (omega arith) (omega arith) (omega arith) (omega arith) (omega arith) (omega arith) (omega arith)

pub same_bytes : (x y : ℕ) → x % 2 ^ 64 ≡ y % 2 ^ 64 → S.bytes 8 x ≡ S.bytes 8 y
same_bytes x y e = sym (bytes_wrap x) ∙ ap (S.bytes 8) e ∙ bytes_wrap y

-- Laws of the message schedule. Assumes nothing.
use Rattle.std.proofs.Common.{◌≡◌, ℕ, ◌+◌, ◌-◌, ◌*◌, ◌<◌, ◌≤◌, List, length, get_or, take, set, add-one, arith, get_or-take, take-suc-set, le-ltb, lt-ltb}
use lib.Bits.{bit_xor}
use Rattle.sha1_digest.specs.Sha1 as S

pub next_first : (p : List ℕ) (i : ℕ) (W : List ℕ) (t : ℕ) → t < 16 → S.next p i W t ≡ S.word p (i + 4 * t)
unfolding S.next
next_first p i W t h = simp (lt-ltb t 16 h)

pub next_later : (p : List ℕ) (i : ℕ) (W w : List ℕ) (t : ℕ) → 16 ≤ t → take t w ≡ W
    → S.rotl 1 (bit_xor (bit_xor (bit_xor (get_or w (t - 3) 0) (get_or w (t - 8) 0)) (get_or w (t - 14) 0)) (get_or w (t - 16) 0))
    ≡ S.next p i W t
unfolding S.next
next_later p i W w t h e =
    let e3 : get_or (take t w) (t - 3) 0 ≡ get_or w (t - 3) 0 = get_or-take t w (t - 3) 0 (omega arith) in
    let e8 : get_or (take t w) (t - 8) 0 ≡ get_or w (t - 8) 0 = get_or-take t w (t - 8) 0 (omega arith) in
    let e14 : get_or (take t w) (t - 14) 0 ≡ get_or w (t - 14) 0 = get_or-take t w (t - 14) 0 (omega arith) in
    let e16 : get_or (take t w) (t - 16) 0 ≡ get_or w (t - 16) 0 = get_or-take t w (t - 16) 0 (omega arith) in
    simp (le-ltb t 16 h, ← e) (cc)

-- a store of the next word makes one word more of the schedule
pub schedule_more : (p : List ℕ) (i t : ℕ) (w : List ℕ) (v : ℕ) → t < length w → take t w ≡ S.schedule p i t
    → v ≡ S.next p i (S.schedule p i t) t → take (t + 1) (set w t v) ≡ S.schedule p i (t + 1)
unfolding S.schedule
schedule_more p i t w v h e n = rw (add-one, take-suc-set) (cc)

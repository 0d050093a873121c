-- `digit_of` worked out at the ends of its two ranges: the character before, the first, the last and the one after. A definition whose range is moved
-- does not agree with this, even if the code is moved along.
-- Assumes nothing.
use mathlib.Core.Path.{◌≡◌, refl}
use Rattle.text.specs.Hash.{digit_of}
use Rattle.std.specs.Prelude.{Some, None}

-- / 0 9 :
pub digits-end : (digit_of 47 ≡ None) × (digit_of 48 ≡ Some 0) × (digit_of 57 ≡ Some 9) × (digit_of 58 ≡ None)
unfolding digit_of
digits-end = (refl, refl, refl, refl)

-- A F, which are no digits: a hash is in lower case
pub capitals_other : (digit_of 65 ≡ None) × (digit_of 70 ≡ None)
unfolding digit_of
capitals_other = (refl, refl)

-- ` a f g
pub letters_end : (digit_of 96 ≡ None) × (digit_of 97 ≡ Some 10) × (digit_of 102 ≡ Some 15) × (digit_of 103 ≡ None)
unfolding digit_of
letters_end = (refl, refl, refl, refl)

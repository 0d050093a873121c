-- Laws of `specs/Position.antt`: moves on and back.
-- Assumes nothing.
use Rattle.std.proofs.Common.{◌≡◌, ℕ, ◌+◌, ◌-◌, ◌<◌, ◌≤◌, Bool, true, false, leb, refl, arith, le-leb, leb-false, leb-true}
use borrow.Author.Tests.{lt-leb}
use Rattle.text.specs.Choice.{pick}
use Rattle.patch.specs.Signed.{sign_bit, is_negative, magnitude}
use Rattle.patch.specs.Position.{last_position, moved, can_move}

module _ (position n : ℕ) where
  module _ (negative : sign_bit ≤ n) where
    pub can-back : leb (magnitude n) position ≡ can_move position n
    unfolding can_move
    can-back = rw (le-leb sign_bit n negative)

    pub room_back : can_move position n ≡ true → magnitude n ≤ position
    unfolding can_move
    room_back e = leb-true _ _ (rw (le-leb sign_bit n negative) at e)

    pub back : position - magnitude n ≡ moved position n
    unfolding moved
    back = rw (le-leb sign_bit n negative)

  module _ (positive : n < sign_bit) where
    pub room-on : can_move position n ≡ true → position + n ≤ last_position
    unfolding can_move
    room-on e = leb-true _ _ (rw (lt-leb sign_bit n positive) at e)

    pub on : position + n ≡ moved position n
    unfolding moved
    on = rw (lt-leb sign_bit n positive)

    -- the room that is left to the last position says the same
    pub can-on : position ≤ last_position → leb n (last_position - position) ≡ can_move position n
    unfolding can_move
    can-on h = rw (lt-leb sign_bit n positive) (go (leb (position + n) last_position) refl)
      where
        go : (t : Bool) → leb (position + n) last_position ≡ t → leb n (last_position - position) ≡ t
        go true t = le-leb n (last_position - position) (omega (arith, leb-true (position + n) last_position t))
        go false t = lt-leb n (last_position - position) (omega (arith, leb-false (position + n) last_position t))

  pub moved-within : position ≤ last_position → can_move position n ≡ true → moved position n ≤ last_position
  unfolding can_move moved
  moved-within h e = go (is_negative n) e
    where
      go : (t : Bool) → pick t (leb (magnitude n) position) (leb (position + n) last_position) ≡ true →
          pick t (position - magnitude n) (position + n) ≤ last_position
      go true e = omega arith
      go false e = leb-true _ _ e

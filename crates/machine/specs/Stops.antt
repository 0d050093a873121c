-- Document 02, R-9: stops for saving, for any machine. `halts` says of a config that a stop follows the quiet step from it. A call ends at a
-- stop, and the next call's piece begins with the bytes not taken.
-- Assumes nothing: these are definitions.
use Rattle.std.specs.Prelude.{ℕ, zero, ◌+◌, Bool, false, List, [], ◌∷◌, ◌++◌, drop}
use Rattle.text.specs.Choice.{pick, either}
use Rattle.machine.specs.Machine.{Machine, feeds, counts}

-- a config, and whether a stop has come
pub record Halted (A : Type 0) : Type 0 where
  pub config : A
  pub halted : Bool

abbrev pub going_on : {A : Type 0} → A → Halted A
going_on m = record { config = m; halted = false }

-- the same machine, which also rests where a stop has come
abbrev pub halting : (k : Machine) → (k.Config → Bool) → Machine
halting k halts =
    record {
      Config = Halted k.Config;
      waits = λ c. either c.halted (k.waits c.config);
      stopped = λ c. either c.halted (k.stopped c.config);
      quiet = λ c. record { config = k.quiet c.config; halted = halts c.config };
      put = λ x c. going_on (k.put x c.config);
      fuel = λ c. k.fuel c.config;
    }

-- where a call with a piece ends, and how many of its bytes it takes
unfoldable pub call_ends : (k : Machine) → (k.Config → Bool) → List ℕ → k.Config → Halted k.Config
call_ends k halts piece m = feeds (halting k halts) piece (going_on m)

unfoldable pub call_takes : (k : Machine) → (k.Config → Bool) → List ℕ → k.Config → ℕ
call_takes k halts piece m = counts (halting k halts) piece (going_on m)

-- after some calls: where the last one ended; the bytes that it was handed and did not take, if it stopped; how many all of them took
pub record Sent (A : Type 0) : Type 0 where
  pub end : Halted A
  pub rest : List ℕ
  pub taken : ℕ

abbrev pub start : {A : Type 0} → A → Sent A
start m = record { end = going_on m; rest = []; taken = zero }

-- one call more, told by its fresh bytes: its piece is the bytes not taken, and then these
abbrev pub send : (k : Machine) → (k.Config → Bool) → List ℕ → Sent k.Config → Sent k.Config
send k halts fresh c =
    let piece = c.rest ++ fresh in
    let ends = call_ends k halts piece c.end.config in
    let takes = call_takes k halts piece c.end.config in
    record { end = ends; rest = pick ends.halted (drop takes piece) []; taken = c.taken + takes }

-- a sequence of calls; to call on is a call with no fresh bytes
unfoldable pub send_all : (k : Machine) → (k.Config → Bool) → List (List ℕ) → Sent k.Config → Sent k.Config
send_all k halts [] c = c
send_all k halts (q ∷ qs) c = send_all k halts qs (send k halts q c)

-- The theorems of `specs/AsBefore.antt`: every list without an empty range answers as before, R-6's byte apart; and which lists no longer open.
-- Assumes nothing.
use mathlib.Core.List.{List, [], ◌∷◌}
use mathlib.Core.Path.{refl}
use Prim.Native.Nat.{ℕ}
use Rattle.ranges.specs.Ranges.{least_blocks}
use Rattle.sequence.specs.Sequence.{CallsMade, no_calls, piece_of, next_call, all_calls, last_says}
use Rattle.compatibility.specs.EmptyRanges.{least_before, WithoutEmpty}
use Rattle.compatibility.specs.Matching.{MatchingCalls, MatchingOutcomes}
use Rattle.compatibility.specs.AsBefore.{SameCall, AsBefore, NoLonger}
use Rattle.compatibility.proofs.Starts.{first-empty}
use Rattle.compatibility.proofs.Openings.{open_matching, open_state-matching, open_lost, open_kept, open_before}
use Rattle.compatibility.proofs.Runs.{call_same}
use Rattle.compatibility.proofs.Models.{model-same}

module _ (s : List ℕ) (w : WithoutEmpty s) where
  -- the next call, with its whole piece
  next-same : (q : List ℕ) (c d : CallsMade) → MatchingCalls c d → SameCall s (piece_of c q) c.config d.config
  next-same q c d k = call_same s w (piece_of c q) c.config d.config k.config

  next-matching : (q : List ℕ) (c d : CallsMade) → MatchingCalls c d → MatchingCalls (next_call least_before s q c) (next_call least_blocks s q d)
  next-matching q c d k =
      let n = next-same q c d k in
      record {
        config = rw (← k.rest) n.leaves;
        rest = rw (← k.rest, n.stops, n.takes);
        taken = rw (← k.rest, k.taken, n.takes);
      }

  all-matching : (qs : List (List ℕ)) (c d : CallsMade) → MatchingCalls c d → MatchingCalls (all_calls least_before s qs c) (all_calls least_blocks s qs d)
  unfolding all_calls
  all-matching [] c d k = k
  all-matching (q ∷ qs) c d k = all-matching qs (next_call least_before s q c) (next_call least_blocks s q d) (next-matching q c d k)

  last-matching : (q : List ℕ) (qs : List (List ℕ)) (c d : CallsMade) → MatchingCalls c d →
      MatchingOutcomes (last_says least_before s q qs c) (last_says least_blocks s q qs d)
  unfolding last_says
  last-matching q [] c d k = rw (← k.rest) (next-same q c d k).says
  last-matching q (r ∷ qs) c d k = last-matching r qs (next_call least_before s q c) (next_call least_blocks s q d) (next-matching q c d k)

pub as_before : AsBefore
as_before s w =
    record {
      opening = λ lengths. record { refusal = open_matching s lengths w; state = open_state-matching s lengths w };
      call = λ piece p q k. call_same s w piece p q k;
      calls = λ fresh more p q k.
          let c : MatchingCalls (no_calls p) (no_calls q) = record { config = k; rest = refl; taken = refl } in
          record {
            made = all-matching s w (fresh ∷ more) (no_calls p) (no_calls q) c;
            says = last-matching s w fresh more (no_calls p) (no_calls q) c;
          };
      model = λ e areas joined. model-same s w e areas joined;
    }

pub no_longer : NoLonger
no_longer = record { decided = first-empty; lost = open_lost; kept = open_kept; none_new = open_before }

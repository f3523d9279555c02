use Rattle.std.proofs.Common.{◌≡◌, ℕ, ◌+◌, ◌<◌, ◌≤◌, ◌⊎◌, length, None, Some, slice_index}
use Rattle.std.specs.Prelude.{vec_len, vec_capacity}
use Rattle.sm_market.specs.Lists.{place_of}
use Rattle.sm_market.specs.Matching.{held}
use Rattle.sm_theory.specs.Rotations.{proposer_at, reviewer_at}
use Rattle.sm_rotations.specs.Walking.{spot_of, IsOnStack}
use Rattle.sm_rotations.proofs.walk.put_pairs.Given as goal

abbrev pub invariant-loop-k : goal.invariant-loop-k
invariant-loop-k l = record {
  begun : l.from ≤ l.k;
  as_many : l.from + length l.pairs.items ≡ l.k;
  who : (j : ℕ) → j < length l.pairs.items → proposer_at l.pairs.items j ≡ slice_index l.stack (l.from + j);
  paired : (j : ℕ) → j < length l.pairs.items → held l.m.places.proposers (proposer_at l.pairs.items j) ≡ Some (place_of l.market.proposers (proposer_at l.pairs.items j) (reviewer_at l.pairs.items j));
  room : vec_len l.pairs + length l.stack ≤ vec_capacity l.pairs + l.k;
  one_each : length l.spots ≡ length l.fn.spots;
  gone : (j : ℕ) → l.from ≤ j → j < l.k → spot_of l.spots (slice_index l.stack j) ≡ None;
  only : (p : ℕ) → (spot_of l.spots p ≡ spot_of l.fn.spots p) ⊎ ((spot_of l.spots p ≡ None) × IsOnStack l.stack l.from p);
}

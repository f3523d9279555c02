use Rattle.std.proofs.Common.{◌≡◌, ℕ, ◌<◌, length}
use Rattle.sm_market.specs.Matching.{held}
use Rattle.sm_poset.specs.Moves.{IsWorstPlace, moves_in, moves_at}
use Rattle.sm_poset.proofs.sets.worst_places.Given as goal

abbrev pub invariant-loop-p : goal.invariant-loop-p
invariant-loop-p l = record {
  long : length l.places.items ≡ l.p;
  worst : (q : ℕ) → q < l.p → IsWorstPlace (held l.first.places.proposers q) (moves_at (moves_in l.moves) q) l.members (held l.places.items q);
}

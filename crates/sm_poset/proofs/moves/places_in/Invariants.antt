use Rattle.std.proofs.Common.{◌≡◌, ℕ, ◌<◌, length, slice_index}
use Rattle.sm_market.specs.Lists.{row}
use Rattle.sm_poset.proofs.moves.places_in.Given as goal

abbrev pub invariant-loop-p : goal.invariant-loop-p
invariant-loop-p l = record {
  one_each : length l.at.items ≡ l.p;
  on_list : (q : ℕ) → q < l.p → 0 < length (row l.market.proposers q) → slice_index l.at.items q < length (row l.market.proposers q);
}

use Rattle.std.proofs.Common.{◌^◌, ◌≡◌, ◌*◌, pos, neg_ℤ, ◌≤ℤ◌}
use Rattle.sm_weight.specs.Sizes.{weights_in, weight_held}
use Rattle.sm_weight.proofs.gains.weight_held.Given as goal

-- the weight so far, and how great its size can be
abbrev pub invariant-loop-p : goal.invariant-loop-p
invariant-loop-p l = record {
  weight : l.weight ≡ weight_held (weights_in l.weights) l.m.places.proposers l.pairs l.p-index;
  below : neg_ℤ (pos (2 ^ 30 * l.p-index)) ≤ℤ l.weight;
  above : l.weight ≤ℤ pos (2 ^ 30 * l.p-index);
}

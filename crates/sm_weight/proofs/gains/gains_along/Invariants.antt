use Rattle.std.proofs.Common.{◌≡◌, ◌*◌, ◌^◌, ◌≤◌, map, take, length}
use Rattle.std.specs.List.{sum_by}
use Rattle.std.specs.Int.RustNames.{unsigned_abs}
use Rattle.sm_lists.specs.Sums.{sum_to}
use Rattle.sm_market.specs.Pairing.{IsPairingOf}
use Rattle.sm_theory.specs.Chains.{rotation_at, stage}
use Rattle.sm_theory.specs.Values.{rotations_of}
use Rattle.sm_theory.specs.Weights.{gain_of}
use Rattle.sm_weight.specs.Sizes.{weights_in}
use Rattle.sm_weight.proofs.gains.gains_along.Given as goal

abbrev pub invariant-loop-k : goal.invariant-loop-k
invariant-loop-k l = record {
  made : IsPairingOf l.market l.m;
  at : l.m.places ≡ stage l.market l.chain.first.places (rotations_of l.chain.rotations.items) l.k;
  gains : l.gains.items ≡ map (gain_of l.market (weights_in l.weights)) (take l.k (rotations_of l.chain.rotations.items));
  small : sum_by unsigned_abs l.gains.items ≤ 2 ^ 31 * sum_to (λ k. length (rotation_at (rotations_of l.chain.rotations.items) k)) l.k;
}

use Rattle.std.proofs.Common.{◌^◌, ℕ, arith}
use Rattle.std.proofs.lemmas.Int.{ints, to_z-of_z}
use Rattle.sm_market.specs.Matching.{held}
use Rattle.sm_theory.specs.Rotations.{proposer_at}
use Rattle.sm_theory.specs.Weights.{weight_of_place}
use Rattle.sm_weight.specs.Sizes.{weights_in}
use Rattle.sm_theory.proofs.Weighing.Sizes.{total_more, above_of, below_of}
use Rattle.sm_weight.proofs.gains.weight_held.Goals as goal

pub loop-p-preserved : goal.loop-p-preserved
loop-p-preserved c =
    let n : ℕ = c.loop-p.p-index in
    let more = total_more (λ i. weight_of_place (weights_in c.args.weights.now) (proposer_at c.args.pairs.now i) (held c.args.m.now.places.proposers (proposer_at c.args.pairs.now i))) n in
    let one = c.weight_of-weight.ensures.weight in
    let low = above_of c.weight_of-weight.result (2 ^ 30) c.weight_of-weight.ensures.small in
    let high = below_of c.weight_of-weight.result (2 ^ 30) c.weight_of-weight.ensures.small in
    record {
      weight = grind (arith, ints, to_z-of_z, more, one);
      below = omega (arith, ints);
      above = omega (arith, ints);
    }

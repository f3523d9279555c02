use Rattle.std.proofs.Common.{◌^◌, ◌≡◌, ◌*◌, ◌∙◌, arith, length, ap}
use Rattle.std.proofs.lemmas.Int.{ints, to_z-of_z}
use Rattle.sm_theory.specs.Sizes.{weights_in}
use Rattle.sm_theory.specs.Weights.{total}
use Rattle.sm_theory.proofs.Weighing.Sizes.{total_more, above_of, below_of}
use Rattle.sm_check_net.specs.Moves.{move_at, move_gain}
use Rattle.sm_check_net.proofs.MoveLemmas.{moves_gain-gain_of}
use Rattle.sm_check_net.proofs.moves.gain.Goals as goal

pub loop-i-preserved : goal.loop-i-preserved
loop-i-preserved c =
    let more = total_more (λ i. move_gain (weights_in c.args.weights.now) (move_at c.args.moves.now i)) c.loop-i.i in
    let one = c.gain_at-gain.ensures.gain in
    let low = above_of c.gain_at-gain.result (2 ^ 31) c.gain_at-gain.ensures.small in
    let high = below_of c.gain_at-gain.result (2 ^ 31) c.gain_at-gain.ensures.small in
    record {
      gain = grind (arith, ints, to_z-of_z, more, one);
      below = omega (arith, ints);
      above = omega (arith, ints);
    }

pub returns : goal.returns
returns c l rotation m =
    let all : c.loop-i.i ≡ length c.args.moves.now = omega (arith, c.loop-i-test.false, c.loop-i.auto.i-end) in
    c.loop-i.invariant.gain ∙ ap (total (λ i. move_gain (weights_in c.args.weights.now) (move_at c.args.moves.now i))) all ∙ moves_gain-gain_of (weights_in c.args.weights.now) m

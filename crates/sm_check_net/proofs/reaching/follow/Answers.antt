use Rattle.std.proofs.Common.{arith, subst, ℕ}
use Rattle.sm_check_net.specs.Reaching.{TrailGoesOn}
use Rattle.sm_check_net.proofs.ReachLemmas.{following_on, followed}
use Rattle.sm_check_net.proofs.reaching.follow.Goals as goal

pub nodes-preserved : goal.nodes-preserved
nodes-preserved c =
    following_on c.nodes.invariant (omega (arith, c.len.ensures, c.nodes-test.true)) (subst (λ (v : ℕ). TrailGoesOn c.args.steps.now v c.nodes.trail c.step_from.new.trail) c.at.ensures c.step_from.ensures)

pub returns : goal.returns
returns c = followed c.nodes.invariant (omega (arith, c.len.ensures, c.nodes-test.false))

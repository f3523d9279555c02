use Rattle.std.proofs.Common.{◌≡◌, ℕ, arith, ap, ◌∙◌, subst, List}
use Rattle.sm_check_net.specs.Pairs.{has_pair}
use Rattle.sm_check_net.specs.Residual.{residual_steps}
use Rattle.sm_check_net.specs.Reaching.{IsReachedTrail}
use Rattle.sm_check_net.proofs.ResidualLemmas.{steps_lead, reach_is}
use Rattle.sm_check_net.proofs.residual.is_residual_reach.Goals as goal

pub reached-requires-clause-nodes : goal.reached-requires-clause-nodes
reached-requires-clause-nodes c k less =
    let all : (i j : ℕ) → has_pair c.of-steps.result i j ≡ has_pair (residual_steps c.args.net.now c.args.lines.now) i j = (λ i j. c.of-steps.ensures.same i j ∙ ap (λ (xs : List (ℕ × ℕ)). has_pair xs i j) c.in_ok-residual_steps.ensures) in
    omega (arith, c.nodes.ensures, steps_lead c.args.net.now c.args.lines.now c.of-steps.result all c.requires.nodes k less)

pub returns : goal.returns
returns c =
    let all : (i j : ℕ) → has_pair c.of-steps.result i j ≡ has_pair (residual_steps c.args.net.now c.args.lines.now) i j = (λ i j. c.of-steps.ensures.same i j ∙ ap (λ (xs : List (ℕ × ℕ)). has_pair xs i j) c.in_ok-residual_steps.ensures) in
    let reach = reach_is c.args.net.now c.args.lines.now c.of-steps.result all c.requires.nodes (subst (λ n. IsReachedTrail n c.of-steps.result c.in_ok-trail.trail) c.nodes.ensures c.in_ok-trail.ensures) c.requires.set in (
      (λ yes'. reach.0 (c.has_members.ensures.0 yes')),
      (λ r. c.has_members.ensures.1 (reach.1 r)),
    )

use Rattle.std.proofs.Common.{◌≡◌, Some, sym, ap, ◌∙◌}
use Rattle.sm_market.specs.Lists.{entry}
use Rattle.sm_market.specs.Matching.{held}
use Rattle.sm_rotations.proofs.FollowingLemmas.{step_read}
use Rattle.sm_rotations.proofs.exposure.step.Goals as goal

pub returns-clause-step : goal.returns-clause-step
returns-clause-step c =
    let i = c.in_ok-successor.field-0 in
    let holder : held c.args.m.now.holders (entry c.args.market.now.proposers c.args.p c.in_ok-successor.field-0) ≡ Some c.in_ok-next.next = ap (held c.args.m.now.holders) (sym c.reviewer_at-target.ensures.named) ∙ sym c.holder.ensures ∙ c.in_ok-next.was in
    rw c.reviewer_at.ensures.named (step_read c.args.p c.in_ok-place.place c.in_ok-successor.field-0 c.in_ok-next.next c.requires.market c.requires.made (sym c.place.ensures ∙ c.in_ok-place.was) c.in_ok-successor.ensures holder)

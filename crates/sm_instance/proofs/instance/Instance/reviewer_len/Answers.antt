use Rattle.std.proofs.Common.{ap, ◌∙◌}
use Rattle.sm_agents.specs.Written.{row}
use Rattle.sm_agents.specs.Vectors.{agents_of}
use Rattle.sm_instance.proofs.PlaceLemmas.{length-list-le}
use Rattle.sm_instance.proofs.instance.Instance.reviewer_len.Goals as goal

pub returns-clause-fits : goal.returns-clause-fits
returns-clause-fits c =
    let kept = c.self.invariant.instance in
    let list = c.list_at.ensures ∙ ap (λ agents. row (agents_of agents) c.args.r) c.deref.ensures.value in
    length-list-le kept.reviewer_entries kept.limits.proposers c.args.r list

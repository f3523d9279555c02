use Rattle.std.proofs.Common.{subst}
use Rattle.sm_instance_lines.specs.Lines.{NamesAgents}
use Rattle.sm_instance_lines.proofs.AgentLemmas.{left_lists, right_lists}
use Rattle.sm_instance_lines.proofs.printing.put_line.Goals as goal

pub put_proposer-requires : goal.put_proposer-requires
put_proposer-requires c =
    let input = c.args.input.now in
    left_lists input c.lefts.result.now c.rights.result.now c.in-Proposer.p c.index-lefts-p.result c.lefts.ensures.sound c.lefts.ensures.agents c.rights.ensures.agents
    (subst (NamesAgents input) c.in-Proposer.is c.requires) c.index-lefts-p.is

pub put_reviewer-requires : goal.put_reviewer-requires
put_reviewer-requires c =
    let input = c.args.input.now in
    right_lists input c.rights-in-Reviewer.result.now c.lefts-in-Reviewer.result.now c.in-Reviewer.r c.index-rights-r.result c.rights-in-Reviewer.ensures.sound
    c.rights-in-Reviewer.ensures.agents c.lefts-in-Reviewer.ensures.agents (subst (NamesAgents input) c.in-Reviewer.is c.requires) c.index-rights-r.is

use Rattle.std.proofs.Common.{◌∙◌, arith}
use Rattle.sm_instance_lines.proofs.AgentLemmas.{proposer_text, reviewer_text, item_text}
use Rattle.sm_instance_lines.proofs.finding.agent_line_at.Goals as goal

pub returns-then-place-proposers-clause-text : goal.returns-then-place-proposers-clause-text
returns-then-place-proposers-clause-text c = proposer_text c.args.instance.now c.args.place (omega arith)

pub returns-then-place-reviewers-clause-text : goal.returns-then-place-reviewers-clause-text
returns-then-place-reviewers-clause-text c =
    reviewer_text c.args.instance.now c.proposer_count-proposers.result c.args.place c.proposer_count-proposers.ensures.count (omega arith) (omega arith)

pub returns-clause-text : goal.returns-clause-text
returns-clause-text c =
    c.item_line_at.ensures.text
    ∙ item_text c.args.instance.now c.proposer_count-proposers.result c.reviewer_count-reviewers.result c.args.place c.proposer_count-proposers.ensures.count
    c.reviewer_count-reviewers.ensures.count (omega arith) (omega arith)

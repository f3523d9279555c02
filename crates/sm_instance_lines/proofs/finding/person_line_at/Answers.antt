use Rattle.std.proofs.Common.{◌≡◌, length, ap, ◌∙◌, sym, arith}
use Rattle.std.proofs.lemmas.List.{length-map}
use Rattle.sm_agents.specs.Vectors.{agent_of}
use Rattle.sm_instance_lines.proofs.AgentLemmas.{person_text, persons_end, past_end}
use Rattle.sm_instance_lines.proofs.finding.person_line_at.Goals as goal

pub returns-then-place-count-clause-text : goal.returns-then-place-count-clause-text
returns-then-place-count-clause-text c =
    let count : length c.persons-count.result.now ≡ length c.args.persons.now = sym (length-map c.persons-count.result.now agent_of) ∙ ap length c.persons-count.ensures.agents in
    person_text c.args.persons.now c.args.place (omega arith)

pub returns-then-place-count-2-clause-text : goal.returns-then-place-count-2-clause-text
returns-then-place-count-2-clause-text c =
    let count : length c.persons-count.result.now ≡ length c.args.persons.now = sym (length-map c.persons-count.result.now agent_of) ∙ ap length c.persons-count.ensures.agents in
    persons_end c.args.persons.now c.args.place (omega arith)

pub returns-clause-text : goal.returns-clause-text
returns-clause-text c =
    let count : length c.persons-count.result.now ≡ length c.args.persons.now = sym (length-map c.persons-count.result.now agent_of) ∙ ap length c.persons-count.ensures.agents in
    past_end c.args.persons.now c.args.place (omega arith)

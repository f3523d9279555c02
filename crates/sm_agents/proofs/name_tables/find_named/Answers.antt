use Rattle.std.proofs.Common.{ap, sym, ◌∙◌, arith}
use Rattle.std.specs.Str.{bytes_eq}
use Rattle.sm_agents.specs.Vectors.{agents_of}
use Rattle.sm_agents.proofs.AgentLemmas.{length-agents, name_found, name_missing}
use Rattle.sm_agents.proofs.name_tables.find_named.Goals as goal

pub returns-then-eq-clause-number : goal.returns-then-eq-clause-number
returns-then-eq-clause-number c =
    let long = length-agents c.args.agents.now in
    name_found (agents_of c.args.agents.now) c.args.name.now c.loop-a.a (omega arith) c.loop-a.invariant
    (ap (bytes_eq c.args.name.now) (sym c.name_at.ensures) ∙ sym c.eq.ensures ∙ c.if-eq.true)

pub returns-clause-number : goal.returns-clause-number
returns-clause-number c =
    let long = length-agents c.args.agents.now in
    name_missing (agents_of c.args.agents.now) c.args.name.now (λ b l. c.loop-a.invariant b (omega arith))

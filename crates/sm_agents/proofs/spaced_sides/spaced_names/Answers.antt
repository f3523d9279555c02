use Rattle.std.proofs.Common.{List, ℕ, ◌+◌, sym, ap, ◌∙◌, subst}
use Rattle.sm_text.specs.Writer.{IsSpacedName}
use Rattle.sm_text.specs.declared.spaced_name.SpacedName.{SpacedName}
use Rattle.sm_agents.specs.Vectors.{agents_of}
use Rattle.sm_agents.specs.Spaced.{AreSpaced}
use Rattle.sm_agents.proofs.AgentLemmas.{agent_here}
use Rattle.sm_agents.proofs.SpacedLemmas.{one_more}
use Rattle.sm_agents.proofs.spaced_sides.spaced_names.Goals as goal

pub loop-agent-preserved : goal.loop-agent-preserved
loop-agent-preserved c =
    let agents = c.args.agents.now in
    let i = c.loop-agent.agent-index in
    let here = agent_here agents i c.agent-item.result c.loop-agent-test.true c.agent-item.is in
    let this = subst (λ (name : List ℕ). IsSpacedName c.of.result.bytes c.of.result.len name) (c.deref.ensures.value ∙ sym (ap (λ a. a.name) here)) c.of.ensures in
    subst (λ (spaced : List SpacedName). AreSpaced (agents_of agents) (i + 1) spaced) (sym c.in_ok-push.ensures.items) (one_more (agents_of agents) i c.loop-agent.spaced.items c.of.result c.loop-agent.invariant this)

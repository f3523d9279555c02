use Rattle.sm_agents.specs.Vectors.{agents_of}
use Rattle.sm_agents.specs.Spaced.{AreSpaced}
use Rattle.sm_agents.proofs.spaced_sides.spaced_names.Given as goal

abbrev pub invariant-loop-agent : goal.invariant-loop-agent
invariant-loop-agent l = AreSpaced (agents_of l.agents) l.agent-index l.spaced.items

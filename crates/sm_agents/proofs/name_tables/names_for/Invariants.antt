use Rattle.std.proofs.Common.{◌≡◌, take}
use Rattle.sm_agents.specs.Written.{names_of}
use Rattle.sm_agents.specs.Vectors.{agents_of}
use Rattle.sm_agents.proofs.name_tables.names_for.Given as goal

-- the names of the agents so far
abbrev pub invariant-loop-a : goal.invariant-loop-a
invariant-loop-a l = l.names ≡ take l.a (names_of (agents_of l.agents))

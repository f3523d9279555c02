use Rattle.std.proofs.Common.{◌≡◌, ℕ, ◌<◌, take}
use Rattle.sm_agents.specs.Written.{names_of}
use Rattle.sm_agents.specs.Sound.{IsSoundAgent}
use Rattle.sm_agents.specs.Vectors.{agents_of}
use Rattle.sm_agents.proofs.checks.checked_names.Given as goal

-- the agents so far are sound, and these are their names
abbrev pub invariant-loop-a : goal.invariant-loop-a
invariant-loop-a l = record {
  told : l.names ≡ take l.a (names_of (agents_of l.agents));
  sound : (b : ℕ) → b < l.a → IsSoundAgent (agents_of l.agents) l.single b;
}

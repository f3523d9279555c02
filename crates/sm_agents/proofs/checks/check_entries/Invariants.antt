use Rattle.std.proofs.Common.{ℕ, ◌<◌, ◌≤◌, length, get_or}
use Rattle.sm_agents.specs.Written.{row}
use Rattle.sm_agents.specs.Sound.{IsSoundEntry}
use Rattle.sm_agents.specs.Vectors.{agents_of}
use Rattle.sm_agents.proofs.checks.check_entries.Given as goal

-- the lists so far are sound, and no stamp is of a later one
abbrev pub invariant-loop-a : goal.invariant-loop-a
invariant-loop-a l = record {
  sound : (b j : ℕ) → b < l.a → j < length (row (agents_of l.agents) b) → IsSoundEntry (agents_of l.agents) l.others b j;
  met : (b : ℕ) → get_or l.met b 0 ≤ l.a;
}

use Rattle.std.proofs.Common.{ℕ, ◌<◌, length}
use Rattle.sm_agents.specs.Sound.{IsSoundEntry}
use Rattle.sm_agents.specs.Checks.{AreStamped}
use Rattle.sm_agents.specs.Vectors.{agents_of}
use Rattle.sm_agents.proofs.checks.first_bad_place.Given as goal

-- the entries so far are sound, and those whom they name are stamped
abbrev pub invariant-loop-i : goal.invariant-loop-i
invariant-loop-i l = record {
  sound : (j : ℕ) → j < l.i → IsSoundEntry (agents_of l.agents) (length l.met) l.a j;
  stamped : AreStamped (agents_of l.agents) l.a l.i l.met;
}

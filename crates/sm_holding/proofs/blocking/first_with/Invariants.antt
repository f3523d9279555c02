use Rattle.std.proofs.Common.{ℕ, ◌<◌}
use Rattle.sm_agents.specs.Written.{entry}
use Rattle.sm_instance.specs.Stable.{Blocks}
use Rattle.sm_holding.proofs.blocking.first_with.Given as goal

-- nobody before this place blocks with the proposer
abbrev pub invariant-loop-place : goal.invariant-loop-place
invariant-loop-place l = (i : ℕ) → i < l.place → ¬ Blocks l.instance l.a.places.items l.p (entry l.instance.proposers l.p i)

use Rattle.std.proofs.Common.{ℕ, ◌<◌, ◌≤◌}
use Rattle.sm_agents.specs.Written.{entry}
use Rattle.sm_instance.specs.Stable.{Blocks}
use Rattle.sm_check_answers.proofs.tried.blocks_none_from.Given as goal

-- none so far blocks
abbrev pub invariant-loop-place : goal.invariant-loop-place
invariant-loop-place l = (k : ℕ) → l.from ≤ k → k < l.place → ¬ Blocks l.instance l.a.places.items l.p (entry l.instance.proposers l.p k)

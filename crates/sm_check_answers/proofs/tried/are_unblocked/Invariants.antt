use Rattle.std.proofs.Common.{ℕ, ◌<◌}
use Rattle.sm_instance.specs.Matching.{standing}
use Rattle.sm_check_answers.specs.Tried.{BlocksNoneFrom}
use Rattle.sm_check_answers.proofs.tried.are_unblocked.Given as goal

-- the proposers so far
abbrev pub invariant-loop-p : goal.invariant-loop-p
invariant-loop-p l = (q : ℕ) → q < l.p → BlocksNoneFrom l.instance l.new.places.items q (standing l.instance l.old.places.items q)

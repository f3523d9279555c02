use Rattle.std.proofs.Common.{ℕ, ◌<◌, get_or}
use Rattle.sm_check_decide.specs.Rooms.{PrefersSuccessor}
use Rattle.sm_check_decide.proofs.partitions.prefer_successors.Given as goal

abbrev pub invariant-loop-x : goal.invariant-loop-x
invariant-loop-x l = (z : ℕ) → z < l.x → PrefersSuccessor l.lists z (get_or l.next z 0) (get_or l.before z 0)

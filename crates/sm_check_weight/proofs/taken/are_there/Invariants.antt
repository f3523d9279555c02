use Rattle.std.proofs.Common.{ℕ, ◌<◌, ◌≤◌, get_or}
use Rattle.sm_check_weight.proofs.taken.are_there.Given as goal

-- the numbers so far are those of rotations
abbrev pub invariant-loop-number : goal.invariant-loop-number
invariant-loop-number l = (a : ℕ) → a < l.number-index → get_or l.numbers a 0 ≤ l.size

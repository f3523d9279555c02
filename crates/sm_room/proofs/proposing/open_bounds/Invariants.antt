use Rattle.std.proofs.Common.{◌≡◌, ℕ, ◌<◌, length, get_or}
use Rattle.sm_lists.specs.Rows.{row}
use Rattle.sm_room.proofs.proposing.open_bounds.Given as goal

abbrev pub invariant-loop-x : goal.invariant-loop-x
invariant-loop-x l = (y : ℕ) → y < l.x → get_or l.bounds y 0 ≡ length (row l.market y)

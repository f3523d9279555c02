use Rattle.std.proofs.Common.{◌≢◌, ℕ, ◌<◌}
use Rattle.sm_lists.specs.Rows.{entry}
use Rattle.sm_check_decide.proofs.room_lists.RoomLists.place.Given as goal

abbrev pub invariant-loop-place : goal.invariant-loop-place
invariant-loop-place l = (j : ℕ) → j < l.place → entry l.self l.x j ≢ l.y

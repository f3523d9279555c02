use Rattle.std.proofs.Common.{ℕ, ◌<◌, get_or}
use Rattle.sm_lists.specs.Rows.{entry, place_of}
use Rattle.sm_theory.specs.Rooms.{IsAcceptable}
use Rattle.sm_check_decide.specs.Rooms.{LikesMore}
use Rattle.sm_check_decide.proofs.room_lists.is_unblocked.Given as goal

abbrev pub invariant-loop-x : goal.invariant-loop-x
invariant-loop-x l = (z : ℕ) → z < l.x → (y : ℕ) → IsAcceptable l.lists z y → place_of l.lists z y < get_or l.standings z 0 → ¬ (place_of l.lists y z < get_or l.standings y 0)

abbrev pub invariant-loop-place : goal.invariant-loop-place
invariant-loop-place l = (j : ℕ) → j < l.place → ¬ LikesMore l.lists l.standings l.x (entry l.lists l.x j)

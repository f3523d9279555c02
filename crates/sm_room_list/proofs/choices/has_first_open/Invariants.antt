use Rattle.std.proofs.Common.{ℕ, ◌<◌}
use Rattle.sm_room_list.specs.Tops.{IsOpen}
use Rattle.sm_room_list.proofs.choices.has_first_open.Given as goal

abbrev pub invariant-loop-place : goal.invariant-loop-place
invariant-loop-place l = (i : ℕ) → i < l.place → ¬ IsOpen l.market l.ranks l.x i

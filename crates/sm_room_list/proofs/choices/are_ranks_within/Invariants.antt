use Rattle.std.proofs.Common.{ℕ, ◌<◌, ◌≤◌, get_or}
use Rattle.sm_room_list.specs.Choices.{HasFirstOpen}
use Rattle.sm_room_list.proofs.choices.are_ranks_within.Given as goal

abbrev pub invariant-loop-x : goal.invariant-loop-x
invariant-loop-x l = (y : ℕ) → y < l.x → HasFirstOpen l.market l.ranks y × (get_or l.ranks y 0 ≤ get_or l.tops y 0)

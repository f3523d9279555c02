use Rattle.std.proofs.Common.{ℕ, ◌+◌, ◌<◌, ◌≤◌, length}
use Rattle.sm_room_list.specs.Search.{NoneAt}
use Rattle.sm_room_list.proofs.search.find_above.Given as goal

abbrev pub invariant-loop-back : goal.invariant-loop-back
invariant-loop-back l = (j : ℕ) → length l.market ≤ j + l.back → j < length l.market → NoneAt l.market l.last j

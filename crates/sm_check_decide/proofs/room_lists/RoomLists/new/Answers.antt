use Rattle.sm_theory.proofs.Room.Kept.{rooms_kept}
use Rattle.sm_check_decide.proofs.room_lists.RoomLists.new.Goals as goal

pub invariant_of-result : goal.invariant_of-result
invariant_of-result c =
    rooms_kept c.in_ok-crosses.crosses.rows c.requires.sound c.requires.limits
    (rw (c.deref-3.ensures.value, c.deref-4.ensures.value) at c.in_ok-crosses.ensures.rows)

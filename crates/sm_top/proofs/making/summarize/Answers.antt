use Rattle.sm_top.proofs.KindLemmas.{two_summarized, room_summarized}
use Rattle.sm_top.proofs.making.summarize.Goals as goal

pub returns-in_ok-lines-in-Two-clause-leaves : goal.returns-in_ok-lines-in-Two-clause-leaves
returns-in_ok-lines-in-Two-clause-leaves g c =
    two_summarized _ c.args.input.now c.in-Two.instance _ _ _ _ _ _ c.in-Two.is c.in_ok-lines-in-Two.ensures.right c.write.ensures

pub returns-in_ok-solve_roommates-in-Room-clause-leaves : goal.returns-in_ok-solve_roommates-in-Room-clause-leaves
returns-in_ok-solve_roommates-in-Room-clause-leaves g c = room_summarized _ c.args.input.now c.in-Room.persons _ _ _ _ _ c.in-Room.is c.in_ok-solve_roommates-in-Room.ensures

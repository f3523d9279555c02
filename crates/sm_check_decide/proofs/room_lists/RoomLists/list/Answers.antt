use Rattle.std.proofs.Common.{length, ap, arith}
use Rattle.sm_check_decide.proofs.RoomLemmas.{lent_fits}
use Rattle.sm_check_decide.proofs.room_lists.RoomLists.list.Goals as goal

pub returns-clause-fits : goal.returns-clause-fits
returns-clause-fits c =
    let long = ap length c.self.view_is in
    lent_fits c.self.inside.lists.items c.self.invariant.limits c.args.x c.index.result.now (omega arith) c.index.ensures

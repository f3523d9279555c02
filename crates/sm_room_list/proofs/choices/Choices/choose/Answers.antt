use Rattle.std.proofs.Common.{arith}
use Rattle.sm_lists.specs.Rows.{entry}
use Rattle.sm_lists.proofs.PlaceLemmas.{place_of-le}
use Rattle.sm_room_list.proofs.choices.Choices.choose.Goals as goal

pub set-requires-2-clause-on_list : goal.set-requires-2-clause-on_list
set-requires-2-clause-on_list c =
    let le = place_of-le c.args.market.now (entry c.args.market.now c.args.x c.passed-place.result) c.args.x in
    rw c.at-y.ensures.named (omega (arith, c.cross-cross.ensures, le))

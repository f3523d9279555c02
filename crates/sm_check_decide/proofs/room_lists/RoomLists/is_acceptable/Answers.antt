use Rattle.std.proofs.Common.{ap, ◌∙◌, arith}
use Rattle.sm_lists.specs.Rows.{entry}
use Rattle.sm_lists.proofs.PlaceLemmas.{entry-place_of}
use Rattle.sm_check_decide.proofs.RoomLemmas.{accepted}
use Rattle.sm_check_decide.proofs.room_lists.RoomLists.is_acceptable.Goals as goal

pub returns-then-place-len : goal.returns-then-place-len
returns-then-place-len c =
    let at = c.place-place.ensures.place in
    let count = c.len.ensures.count in
    let there = ap (λ i. entry c.args.self.now c.args.x i) at ∙ entry-place_of c.args.self.now c.args.x c.args.y (omega arith) in
    rw c.is_some.ensures (accepted c.place-place.result c.cross.result there c.cross.ensures)

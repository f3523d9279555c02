use Rattle.std.proofs.Common.{sym, ◌∙◌, arith}
use Rattle.sm_lists.specs.Rows.{row}
use Rattle.sm_lists.proofs.PlaceLemmas.{place_on_is, place_on-none}
use Rattle.sm_check_decide.proofs.room_lists.RoomLists.place.Goals as goal

pub returns-then-at-y : goal.returns-then-at-y
returns-then-at-y c =
    let count = c.len-place-end.ensures.count in
    record { place = sym (place_on_is (row c.args.self.now c.args.x) c.args.y c.loop-place.place (omega arith) (sym c.at.ensures.named ∙ c.if-at-y.true) c.loop-place.invariant) }

pub returns : goal.returns
returns c =
    let count = c.len-place-end.ensures.count in
    record { place = c.len.ensures.count ∙ sym (place_on-none (row c.args.self.now c.args.x) c.args.y (λ i on. c.loop-place.invariant i (omega arith))) }

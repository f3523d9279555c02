use Rattle.std.proofs.Common.{sym, ◌∙◌}
use Rattle.sm_lists.proofs.FoundLemmas.{place_on-unfound}
use Rattle.sm_room.proofs.market.RoomMarket.place.Goals as goal

pub returns-in-None-clause-place : goal.returns-in-None-clause-place
returns-in-None-clause-place c =
    c.len.ensures.count ∙ sym (rw (← c.list.ensures.list) (place_on-unfound c.list.result.now c.args.y (sym c.in-None.is ∙ c.first_place.ensures.found)))

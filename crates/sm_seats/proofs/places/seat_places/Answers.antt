use Rattle.std.proofs.Common.{◌∙◌}
use Rattle.sm_seats.specs.Tables.{seat_places_at}
use Rattle.sm_lists.proofs.RowLemmas.{list_pushed}
use Rattle.sm_seats.proofs.places.seat_places.Goals as goal

pub loop-p-preserved : goal.loop-p-preserved
loop-p-preserved c =
    rw c.in_ok-push.ensures.pushed (list_pushed c.loop-p.places c.deref.result.now (seat_places_at c.args.instance.now) c.loop-p.p c.loop-p.invariant (c.deref.ensures.value ∙ c.in_ok-write_seat_places.ensures))

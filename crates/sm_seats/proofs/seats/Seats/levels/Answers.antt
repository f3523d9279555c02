use Rattle.sm_seats.specs.Seating.{levels_at}
use Rattle.sm_lists.proofs.RowLemmas.{rows_of-push}
use Rattle.sm_seats.proofs.seats.Seats.levels.Goals as goal

pub loop-p-preserved : goal.loop-p-preserved
loop-p-preserved c =
    rw c.in_ok-push.ensures.items (rows_of-push c.loop-p.levels.items c.in_ok-levels_at.field-0 (levels_at c.args.self.now) c.loop-p.p c.loop-p.invariant c.in_ok-levels_at.ensures)

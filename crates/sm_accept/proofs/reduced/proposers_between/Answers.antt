use Rattle.sm_market.specs.Reduced.{reduced_row}
use Rattle.sm_lists.proofs.RowLemmas.{rows_of-push}
use Rattle.sm_accept.proofs.reduced.proposers_between.Goals as goal

pub loop-r-preserved : goal.loop-r-preserved
loop-r-preserved c =
    rw c.in_ok-push.ensures.items (rows_of-push c.loop-r.rows.items c.add_proposers.new.row (reduced_row c.args.market.now.reviewers c.args.market.now.proposers c.args.first.now.places.reviewers c.args.last.now.places.proposers) c.loop-r.r c.loop-r.invariant c.in_ok-add_proposers.ensures)

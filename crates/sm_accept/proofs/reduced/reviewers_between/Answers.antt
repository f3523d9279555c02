use Rattle.sm_market.specs.Reduced.{reduced_row}
use Rattle.sm_lists.proofs.RowLemmas.{rows_of-push}
use Rattle.sm_accept.proofs.reduced.reviewers_between.Goals as goal

pub loop-p-preserved : goal.loop-p-preserved
loop-p-preserved c =
    rw c.in_ok-push.ensures.items (rows_of-push c.loop-p.rows.items c.add_reviewers.new.row (reduced_row c.args.market.now.proposers c.args.market.now.reviewers c.args.last.now.places.proposers c.args.first.now.places.reviewers) c.loop-p.p c.loop-p.invariant c.in_ok-add_reviewers.ensures)

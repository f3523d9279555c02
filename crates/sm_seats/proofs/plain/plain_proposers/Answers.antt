use Rattle.std.proofs.Common.{◌≡◌, ◌<◌, length, sym, ap, ◌∙◌, arith}
use Rattle.sm_seats.specs.SeatMarket.{seat_row}
use Rattle.sm_seats.specs.ProposerRows.{seat_rows_of}
use Rattle.sm_lists.proofs.RowLemmas.{list_pushed}
use Rattle.sm_seats.proofs.PlainLemmas.{seat_row_is, rows_are_written, crosses_are_written}
use Rattle.sm_seats.proofs.plain.plain_proposers.Goals as goal

pub loop-p-preserved : goal.loop-p-preserved
loop-p-preserved c =
    let w = c.args.instance.now in
    let p = c.loop-p.p in
    let it = c.proposer_count-proposers.ensures.instance in
    let there : p < length w.proposers = omega (arith, c.loop-p-test.true, c.proposer_count-proposers.ensures.count) in
    rw c.in_ok-push.ensures.pushed (list_pushed c.loop-p.lists c.proposer_list.result.now (seat_row w) p c.loop-p.invariant (c.proposer_list.ensures ∙ sym (seat_row_is it c.requires.plain p there)))

pub returns-clause-written : goal.returns-clause-written
returns-clause-written c =
    let w = c.args.instance.now in
    let it = c.proposer_count-proposers.ensures.instance in
    let whole : c.loop-p.p ≡ length w.proposers = omega arith in
    c.loop-p.invariant ∙ ap (seat_rows_of w) whole ∙ rows_are_written it c.requires.plain

pub returns-clause-crosses : goal.returns-clause-crosses
returns-clause-crosses c =
    let it = c.proposer_count-proposers.ensures.instance in
    c.in_ok-crosses.ensures ∙ crosses_are_written it c.requires.plain c.args.crosses c.requires.crosses

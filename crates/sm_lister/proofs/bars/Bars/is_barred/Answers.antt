use Rattle.std.proofs.Common.{◌<◌, ◌+◌, ap, arith, length, slice_index}
use Rattle.std.proofs.lemmas.Bool.{ltb-true}
use Rattle.sm_market.specs.Lists.{row}
use Rattle.sm_least.proofs.StepLemmas.{leave_fresh}
use Rattle.sm_lister.proofs.BarredLemmas.{placed, moves_long, barred_last, barred_next, barred_itself}
use Rattle.sm_lister.proofs.bars.Bars.is_barred.Goals as goal

pub returns-then-stay-moves-clause-barred : goal.returns-then-stay-moves-clause-barred
returns-then-stay-moves-clause-barred c = λ _.
    barred_last c.args.i c.proposer_at-p.result c.stay-stay.result c.board-board.ensures.course.board c.requires.order c.requires.held c.requires.position c.proposer_at-p.ensures.proposer c.stay-stay.ensures
    (omega (arith, c.if-stay-moves.true, moves_long c.moves.result.now c.proposer_at-p.result c.moves.ensures c.board-board.ensures.board))

pub position-requires-clause-fresh : goal.position-requires-clause-fresh
position-requires-clause-fresh c =
    let in_it = placed c.args.i c.proposer_at-p.result c.requires.order c.requires.position c.proposer_at-p.ensures.proposer in
    leave_fresh c.proposer_at-p.result c.stay-stay.result c.leave-x.result c.board-board.ensures.course.board c.requires.held c.requires.closed in_it c.stay-stay.ensures (omega (arith, c.if-stay-moves.false, moves_long c.moves.result.now c.proposer_at-p.result c.moves.ensures c.board-board.ensures.board)) c.leave-x.ensures.rotation

pub returns-then-first_positions-x-clause-barred : goal.returns-then-first_positions-x-clause-barred
returns-then-first_positions-x-clause-barred c = λ _.
    let board = c.board-board.ensures.course.board in
    let p = c.proposer_at-p.result in
    let x = c.leave-x.result in
    let stay = c.stay-stay.result in
    let in_it = placed c.args.i p c.requires.order c.requires.position c.proposer_at-p.ensures.proposer in
    let few : stay < length (row c.args.course.now.board.leaves p) = omega (arith, c.if-stay-moves.false, moves_long c.moves.result.now c.proposer_at-p.result c.moves.ensures c.board-board.ensures.board) in
    let less : slice_index c.args.course.now.first x < c.args.i = omega (arith, c.if-first_positions-x.true, ap (λ xs. slice_index xs x) c.first_positions.ensures.positions) in
    barred_next c.args.i p stay x (slice_index c.args.course.now.first x + 1) board c.requires.order c.requires.held c.requires.position c.proposer_at-p.ensures.proposer c.stay-stay.ensures c.leave-x.ensures.rotation (omega arith)
    (barred_itself x c.board-board.ensures.course (omega (arith, c.leave-x.ensures.rotation, board.in_range p stay few)) (leave_fresh p stay x board c.requires.held c.requires.closed in_it c.stay-stay.ensures few c.leave-x.ensures.rotation) (omega (arith, c.requires.order.long, c.requires.position)))

pub returns-else-first_positions-x-clause-barred : goal.returns-else-first_positions-x-clause-barred
returns-else-first_positions-x-clause-barred c = λ yes.
    let less : c.position.result < c.args.i = ltb-true c.position.result c.args.i yes in
    barred_next c.args.i c.proposer_at-p.result c.stay-stay.result c.leave-x.result (c.position.result + 1) c.board-board.ensures.course.board c.requires.order c.requires.held c.requires.position c.proposer_at-p.ensures.proposer c.stay-stay.ensures c.leave-x.ensures.rotation (omega arith)
    (c.position.ensures.barred (omega (arith, c.requires.order.long, c.requires.position)))

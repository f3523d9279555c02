use Rattle.std.proofs.Common.{◌<◌, arith, length}
use Rattle.sm_market.specs.Lists.{row}
use Rattle.sm_least.proofs.StepLemmas.{grows_more, broken_back, leave_fresh, grew, log_few, low_leave, low_last}
use Rattle.sm_least.proofs.grow.lift.Goals as goal

pub returns-then-is_last-clause-barred : goal.returns-then-is_last-clause-barred
returns-then-is_last-clause-barred c = λ _ D d inside. absurd (low_last c.args.p c.stay-stay.result c.args.wanted c.board-board.ensures.course.board c.stays.invariant.grows.held c.requires.proposer c.stay-stay.ensures (omega (arith, c.stays-test.true, c.level.ensures)) (c.is_last.ensures.last c.if-is_last.true) d (c.stays.invariant.in_all D d inside))

pub leave-requires-clause-stay : goal.leave-requires-clause-stay
leave-requires-clause-stay c = omega (arith, c.is_last.ensures.more c.if-is_last.false, c.requires.gates.few c.args.p c.requires.proposer, c.board-board.ensures.course.board.long c.args.p c.requires.proposer)

pub bring-requires-clause-fresh : goal.bring-requires-clause-fresh
bring-requires-clause-fresh c =
    let few : c.stay-stay.result < length (row c.args.course.now.board.leaves c.args.p) = omega (arith, c.is_last.ensures.more c.if-is_last.false, c.requires.gates.few c.args.p c.requires.proposer, c.board-board.ensures.course.board.long c.args.p c.requires.proposer) in
    leave_fresh c.args.p c.stay-stay.result _ c.board-board.ensures.course.board c.stays.invariant.grows.held c.stays.invariant.closed c.requires.proposer c.stay-stay.ensures few c.leave.ensures.rotation

pub returns-then-not-bring-clause-grows : goal.returns-then-not-bring-clause-grows
returns-then-not-bring-clause-grows c = grows_more c.stays.invariant.grows c.bring.ensures.grows

pub returns-then-not-bring-clause-in_all : goal.returns-then-not-bring-clause-in_all
returns-then-not-bring-clause-in_all c = λ D d inside.
    let now = c.stays.invariant.in_all D d inside in
    c.bring.ensures.in_all D (record { closed = d.fits.closed; has = low_leave c.args.p c.stay-stay.result _ c.args.wanted c.board-board.ensures.course.board c.stays.invariant.grows.held c.requires.proposer c.stay-stay.ensures (omega (arith, c.stays-test.true, c.level.ensures)) c.leave.ensures.rotation d now }) now

pub returns-then-not-bring-clause-barred : goal.returns-then-not-bring-clause-barred
returns-then-not-bring-clause-barred c = λ _ D d inside.
    let now = c.stays.invariant.in_all D d inside in
    broken_back c.stays.invariant.grows.more (c.bring.ensures.barred c.if-not-bring.true D (record { closed = d.fits.closed; has = low_leave c.args.p c.stay-stay.result _ c.args.wanted c.board-board.ensures.course.board c.stays.invariant.grows.held c.requires.proposer c.stay-stay.ensures (omega (arith, c.stays-test.true, c.level.ensures)) c.leave.ensures.rotation d now }) now)

pub stays-smaller : goal.stays-smaller
stays-smaller c =
    let few : c.stay-stay.result < length (row c.args.course.now.board.leaves c.args.p) = omega (arith, c.is_last.ensures.more c.if-is_last.false, c.requires.gates.few c.args.p c.requires.proposer, c.board-board.ensures.course.board.long c.args.p c.requires.proposer) in
    let fresh = leave_fresh c.args.p c.stay-stay.result _ c.board-board.ensures.course.board c.stays.invariant.grows.held c.stays.invariant.closed c.requires.proposer c.stay-stay.ensures few c.leave.ensures.rotation in
    omega (arith, grew _ c.stays.invariant.grows.held c.bring.ensures.grows (c.bring.ensures.member c.if-not-bring.false) fresh, log_few c.bring.ensures.grows.held)

pub stays-preserved : goal.stays-preserved
stays-preserved c = record {
  grows = grows_more c.stays.invariant.grows c.bring.ensures.grows;
  closed = c.bring.ensures.closed c.if-not-bring.false;
  in_all = λ D d inside.
      let now = c.stays.invariant.in_all D d inside in
      c.bring.ensures.in_all D (record { closed = d.fits.closed; has = low_leave c.args.p c.stay-stay.result _ c.args.wanted c.board-board.ensures.course.board c.stays.invariant.grows.held c.requires.proposer c.stay-stay.ensures (omega (arith, c.stays-test.true, c.level.ensures)) c.leave.ensures.rotation d now }) now;
}

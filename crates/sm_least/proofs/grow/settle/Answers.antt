use Rattle.std.proofs.Common.{arith, length}
use Rattle.sm_least.proofs.StepLemmas.{grows_same, grows_more, broken_back, settled_more, settled_fits, log_few}
use Rattle.sm_least.proofs.grow.settle.Goals as goal

pub loop-place-init : goal.loop-place-init
loop-place-init c = record {
  grows = grows_same c.args.bar c.requires.held;
  closed = c.requires.closed;
  in_all = λ D d inside. inside;
  few = c.requires.start;
  settled = c.requires.settled;
}

pub returns-then-not-open_movers-clause-grows : goal.returns-then-not-open_movers-clause-grows
returns-then-not-open_movers-clause-grows c = grows_more c.loop-place.invariant.grows c.open_movers.ensures.grows

pub returns-then-not-open_movers-clause-in_all : goal.returns-then-not-open_movers-clause-in_all
returns-then-not-open_movers-clause-in_all c = λ D d inside. c.open_movers.ensures.in_all D d (c.loop-place.invariant.in_all D d inside)

pub returns-then-not-open_movers-clause-barred : goal.returns-then-not-open_movers-clause-barred
returns-then-not-open_movers-clause-barred c = λ _ D d inside. broken_back c.loop-place.invariant.grows.more (c.open_movers.ensures.barred c.if-not-open_movers.true D d (c.loop-place.invariant.in_all D d inside))

pub loop-place-smaller : goal.loop-place-smaller
loop-place-smaller c = omega (arith, log_few c.loop-place.invariant.grows.held, c.loop-place-test.true, c.count.ensures)

pub loop-place-preserved : goal.loop-place-preserved
loop-place-preserved c = record {
  grows = grows_more c.loop-place.invariant.grows c.open_movers.ensures.grows;
  closed = c.open_movers.ensures.closed c.if-not-open_movers.false;
  in_all = λ D d inside. c.open_movers.ensures.in_all D d (c.loop-place.invariant.in_all D d inside);
  few = omega (arith, c.loop-place-test.true, c.count.ensures, c.open_movers.ensures.grows.longer);
  settled = settled_more c.loop-place.place _ (length c.args.course.now.board.leaves) c.board-board.ensures.course.board c.loop-place.invariant.grows.held c.open_movers.ensures.grows (omega (arith, c.loop-place-test.true, c.count.ensures)) c.entered.ensures c.loop-place.invariant.settled (c.open_movers.ensures.opened c.if-not-open_movers.false);
}

pub returns-clause-fits : goal.returns-clause-fits
returns-clause-fits c = λ _. settled_fits c.loop-place.held c.loop-place.place c.loop-place.invariant.closed (omega (arith, c.loop-place-test.false, c.count.ensures)) c.loop-place.invariant.settled

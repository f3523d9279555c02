use Rattle.std.proofs.Common.{◌≡◌, arith, subst, length}
use Rattle.sm_board.specs.Growing.{AreNeedsIn}
use Rattle.sm_board.proofs.GrowLemmas.{log_fits, closed_when_done}
use Rattle.sm_least.proofs.StepLemmas.{grows_more, broken_back, needs_more}
use Rattle.sm_least.proofs.grow.close.Goals as goal

pub returns-then-not-enter_needs-clause-grows : goal.returns-then-not-enter_needs-clause-grows
returns-then-not-enter_needs-clause-grows c = grows_more c.loop-place.invariant.grows c.enter_needs.ensures.grows

pub returns-then-not-enter_needs-clause-in_all : goal.returns-then-not-enter_needs-clause-in_all
returns-then-not-enter_needs-clause-in_all c = λ D d inside. c.enter_needs.ensures.in_all D d (c.loop-place.invariant.in_all D d inside)

pub returns-then-not-enter_needs-clause-barred : goal.returns-then-not-enter_needs-clause-barred
returns-then-not-enter_needs-clause-barred c = λ _ D d inside. broken_back c.loop-place.invariant.grows.more (c.enter_needs.ensures.barred c.if-not-enter_needs.true D d (c.loop-place.invariant.in_all D d inside))

pub loop-place-smaller : goal.loop-place-smaller
loop-place-smaller c = omega (arith, (log_fits _ _ _ c.loop-place.invariant.grows.held.logged).0, c.loop-place-test.true, c.count.ensures)

pub loop-place-preserved : goal.loop-place-preserved
loop-place-preserved c = record {
  grows = grows_more c.loop-place.invariant.grows c.enter_needs.ensures.grows;
  in_all = λ D d inside. c.enter_needs.ensures.in_all D d (c.loop-place.invariant.in_all D d inside);
  few = omega (arith, c.loop-place-test.true, c.count.ensures, c.enter_needs.ensures.grows.longer);
  done = needs_more c.loop-place.place _ c.enter_needs.ensures.grows (omega (arith, c.loop-place-test.true, c.count.ensures)) c.loop-place.invariant.done c.entered.ensures (c.enter_needs.ensures.entered c.if-not-enter_needs.false);
}

pub returns-clause-closed : goal.returns-clause-closed
returns-clause-closed c = λ _.
    let e : c.loop-place.place ≡ length c.loop-place.held.log = omega (arith, c.loop-place.invariant.few, c.loop-place-test.false, c.count.ensures) in
    closed_when_done _ _ _ c.loop-place.invariant.grows.held.logged (subst (AreNeedsIn c.args.course.now.board c.loop-place.held.set c.loop-place.held.log) e c.loop-place.invariant.done)

use Rattle.std.proofs.Common.{◌≡◌, arith, subst, length}
use Rattle.sm_least.specs.Steps.{AreSettled}
use Rattle.sm_least.proofs.StepLemmas.{grows_same, grows_more, none_held, nothing_closed, settled_next, none_breaks}
use Rattle.sm_board.proofs.GrowLemmas.{least_is_found}
use Rattle.sm_least.proofs.grow.grow_all.Goals as goal

pub loop-p-init : goal.loop-p-init
loop-p-init c = record {
  grows = grows_same 0 c.requires.held;
  closed = nothing_closed c.requires.held c.requires.nothing;
  in_all = λ D d inside. inside;
  settled = λ q less. absurd (omega arith);
}

pub loop-p-preserved : goal.loop-p-preserved
loop-p-preserved c = record {
  grows = grows_more c.loop-p.invariant.grows c.open.ensures.grows;
  closed = c.open.ensures.closed c.if-not-open.false;
  in_all = λ D d inside. c.open.ensures.in_all D d (c.loop-p.invariant.in_all D d inside);
  settled = settled_next c.loop-p.p c.proposers-p-end.ensures.course.board c.loop-p.invariant.grows.held c.open.ensures.grows c.loop-p.invariant.settled (c.open.ensures.opened c.if-not-open.false);
}

pub returns-then-not-open-clause-none : goal.returns-then-not-open-clause-none
returns-then-not-open-clause-none c = λ _ D d.
    none_breaks (c.open.ensures.barred c.if-not-open.true D d (c.loop-p.invariant.in_all D d (λ x m. absurd (none_held c.requires.held c.requires.nothing x m))))

pub settle-requires-clause-settled : goal.settle-requires-clause-settled
settle-requires-clause-settled c =
    let e : c.loop-p.p ≡ length c.args.course.now.board.leaves = omega (arith, c.loop-p-test.false, c.proposers-p-end.ensures.proposers) in
    subst (AreSettled c.args.course.now.board c.args.gates.now c.loop-p.held 0) e c.loop-p.invariant.settled

pub returns-clause-least : goal.returns-clause-least
returns-clause-least c = λ yes.
    let fits = c.settle.ensures.fits yes in
    least_is_found c.args.course.now.board c.args.gates.now c.settle.new.held.set fits.closed fits.opens
    (λ D d. c.settle.ensures.in_all D d (c.loop-p.invariant.in_all D d (λ x m. absurd (none_held c.requires.held c.requires.nothing x m))))

pub returns-clause-none : goal.returns-clause-none
returns-clause-none c = λ no D d.
    none_breaks (c.settle.ensures.barred no D d (c.loop-p.invariant.in_all D d (λ x m. absurd (none_held c.requires.held c.requires.nothing x m))))

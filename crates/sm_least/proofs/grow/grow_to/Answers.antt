use Rattle.std.proofs.Common.{ℕ, arith, sym, subst, length}
use Rattle.sm_least.specs.Steps.{AreSettled}
use Rattle.sm_board.proofs.BoardLemmas.{stays_grow}
use Rattle.sm_least.proofs.StepLemmas.{grows_more, broken_back, settled_behind, raised, not_raised}
use Rattle.sm_least.proofs.grow.grow_to.Goals as goal

pub returns-then-not-lift-clause-nothing : goal.returns-then-not-lift-clause-nothing
returns-then-not-lift-clause-nothing c = λ _. not_raised c.args.held.now.set c.args.p c.args.wanted c.board-board.ensures.course c.requires.order c.requires.positions c.requires.fits (c.lift.ensures.barred c.if-not-lift.true)

pub settle-requires-clause-settled : goal.settle-requires-clause-settled
settle-requires-clause-settled c = subst (λ (from : ℕ). AreSettled c.args.course.now.board c.args.gates.now c.lift.new.held from (length c.args.course.now.board.leaves)) (sym c.count-start.ensures)
    (settled_behind c.board-board.ensures.course.board c.requires.held c.lift.ensures.grows c.requires.fits)

pub returns-clause-grows : goal.returns-clause-grows
returns-clause-grows c = grows_more c.lift.ensures.grows c.settle.ensures.grows

pub returns-clause-raised : goal.returns-clause-raised
returns-clause-raised c = λ yes.
    let fits = c.settle.ensures.fits yes in
    raised c.args.p c.args.wanted c.board-board.ensures.course c.requires.order c.requires.positions c.requires.fits (grows_more c.lift.ensures.grows c.settle.ensures.grows) fits
    (omega (arith, c.lift.ensures.high c.if-not-lift.false, (stays_grow c.args.course.now.board c.lift.new.held.set c.settle.new.held.set c.args.p c.board-board.ensures.course.board c.settle.ensures.grows.more c.requires.proposer).1))
    (λ D high inside. c.settle.ensures.in_all D high.fits (c.lift.ensures.in_all D high inside))

pub returns-clause-nothing : goal.returns-clause-nothing
returns-clause-nothing c = λ no. not_raised c.args.held.now.set c.args.p c.args.wanted c.board-board.ensures.course c.requires.order c.requires.positions c.requires.fits
    (λ D high inside. broken_back c.lift.ensures.grows.more (c.settle.ensures.barred no D high.fits (c.lift.ensures.in_all D high inside)))

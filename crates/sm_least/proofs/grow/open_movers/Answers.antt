use Rattle.std.proofs.Common.{◌≡◌, ℕ, arith, sym, subst, length}
use Rattle.sm_market.specs.Lists.{row}
use Rattle.sm_board.specs.Board.{firsts, IsOpen, stay}
use Rattle.sm_least.specs.Steps.{AreOpened}
use Rattle.sm_board.proofs.PairLemmas.{first_of_pairs, first_at, firsts_many}
use Rattle.sm_board.proofs.HeldLemmas.{mover_in}
use Rattle.sm_least.proofs.StepLemmas.{grows_same, grows_more, broken_back, opened_more}
use Rattle.sm_least.proofs.grow.open_movers.Goals as goal

pub loop-p-init : goal.loop-p-init
loop-p-init c = record {
  grows = grows_same c.args.bar c.requires.held;
  closed = c.requires.closed;
  in_all = λ D d inside. inside;
  opened = λ a less. absurd (omega arith);
}

pub open-requires-clause-proposer : goal.open-requires-clause-proposer
open-requires-clause-proposer c =
    let e = first_at c.pairs-p-items.result.now c.loop-p.p-index c.pairs-p-items.ensures.movers in
    omega (arith, e, mover_in c.pairs-p-items.ensures.course.board c.args.x c.loop-p.p-index (omega (arith, c.loop-p-test.true, firsts_many c.pairs-p-items.result.now c.pairs-p-items.ensures.movers)))

pub returns-then-not-open-clause-grows : goal.returns-then-not-open-clause-grows
returns-then-not-open-clause-grows c = grows_more c.loop-p.invariant.grows c.open.ensures.grows

pub returns-then-not-open-clause-in_all : goal.returns-then-not-open-clause-in_all
returns-then-not-open-clause-in_all c = λ D d inside. c.open.ensures.in_all D d (c.loop-p.invariant.in_all D d inside)

pub returns-then-not-open-clause-barred : goal.returns-then-not-open-clause-barred
returns-then-not-open-clause-barred c = λ _ D d inside. broken_back c.loop-p.invariant.grows.more (c.open.ensures.barred c.if-not-open.true D d (c.loop-p.invariant.in_all D d inside))

pub loop-p-preserved : goal.loop-p-preserved
loop-p-preserved c = record {
  grows = grows_more c.loop-p.invariant.grows c.open.ensures.grows;
  closed = c.open.ensures.closed c.if-not-open.false;
  in_all = λ D d inside. c.open.ensures.in_all D d (c.loop-p.invariant.in_all D d inside);
  opened = opened_more (length c.args.held.now.log) c.loop-p.p-index (firsts c.pairs-p-items.result.now) (row c.args.course.now.board.movers c.args.x) c.pairs-p-items.ensures.course.board c.loop-p.invariant.grows.held c.open.ensures.grows c.loop-p.invariant.grows.longer c.pairs-p-items.ensures.movers c.loop-p.invariant.opened (subst (λ (p : ℕ). IsOpen c.args.gates.now p (stay c.args.course.now.board c.open.new.held.set p)) (sym (first_of_pairs c.pairs-p-items.result.now c.loop-p.p-index)) (c.open.ensures.opened c.if-not-open.false));
}

pub returns-clause-opened : goal.returns-clause-opened
returns-clause-opened c = λ _.
    let xs = row c.args.course.now.board.movers c.args.x in
    let e : c.loop-p.p-index ≡ length xs = omega (arith, c.loop-p-test.false, firsts_many c.pairs-p-items.result.now c.pairs-p-items.ensures.movers) in
    subst (AreOpened c.args.course.now.board c.args.gates.now c.loop-p.held (length c.args.held.now.log) xs) e c.loop-p.invariant.opened

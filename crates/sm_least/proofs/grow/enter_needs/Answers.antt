use Rattle.std.proofs.Common.{arith, ap, subst, length}
use Rattle.sm_market.specs.Lists.{row}
use Rattle.sm_theory.specs.ClosedSets.{IsMember}
use Rattle.sm_board.proofs.HeldLemmas.{contained_at}
use Rattle.sm_least.proofs.StepLemmas.{grows_same, grows_more, read_in, one_more}
use Rattle.sm_least.proofs.grow.enter_needs.Goals as goal

pub need-requires-clause-number : goal.need-requires-clause-number
need-requires-clause-number c = c.needs-y-items.ensures.course.board.needs_in_range c.args.x _ (read_in c.loop-y.y-index c.needs-y-items.ensures.needs c.loop-y-test.true)

pub loop-y-init : goal.loop-y-init
loop-y-init c = record {
  grows = grows_same c.args.bar c.requires.held;
  in_all = λ D d inside. inside;
  entered = λ a less. absurd (omega arith);
}

pub loop-y-preserved : goal.loop-y-preserved
loop-y-preserved c =
    let need = read_in c.loop-y.y-index c.needs-y-items.ensures.needs c.loop-y-test.true in
    record {
      grows = grows_more c.loop-y.invariant.grows c.need.ensures.grows;
      in_all = λ D d inside.
          let now = c.loop-y.invariant.in_all D d inside in
          c.need.ensures.in_all D (d.closed _ c.args.x (inside c.args.x c.requires.member) need) now;
      entered = one_more (IsMember c.need.new.held.set) c.loop-y.y-index c.needs-y-items.ensures.needs (c.need.ensures.member c.if-not-need.false) (λ a less. c.need.ensures.grows.more _ (c.loop-y.invariant.entered a less));
    }

pub returns-then-not-need-clause-grows : goal.returns-then-not-need-clause-grows
returns-then-not-need-clause-grows c = grows_more c.loop-y.invariant.grows c.need.ensures.grows

pub returns-clause-entered : goal.returns-clause-entered
returns-clause-entered c = λ _ i n.
    let xs = row c.args.course.now.board.needs c.args.x in
    subst (IsMember c.loop-y.held.set) (contained_at xs i n) (c.loop-y.invariant.entered n.0 (omega (arith, n.1, ap length c.needs-y-items.ensures.needs, c.loop-y-test.false)))

use Rattle.std.proofs.Common.{◌≡◌, ℕ, ◌+◌, ◌-◌, arith, subst}
use Rattle.sm_board.specs.Courses.{AreFirstFrom}
use Rattle.sm_board.proofs.CourseLemmas.{first_more, first_of_all}
use Rattle.sm_board.proofs.course.find_first.Goals as goal

pub loop-j-preserved : goal.loop-j-preserved
loop-j-preserved c =
    let back : c.loop-j.j ≡ c.loop-j.j - 1 + 1 = omega (arith, c.loop-j-test.true) in
    record {
      within = omega (arith, c.loop-j.invariant.within);
      are = first_more (c.loop-j.j - 1) (omega (arith, c.loop-j.invariant.within, c.loop-j-test.true))
          (subst (λ (j : ℕ). AreFirstFrom c.args.board.now c.args.order.now j c.loop-j.first) back c.loop-j.invariant.are)
          c.mark_changes.ensures.first_each c.mark_changes.ensures.marked c.mark_changes.ensures.others;
    }

pub returns-clause-first_are : goal.returns-clause-first_are
returns-clause-first_are c =
    let none : c.loop-j.j ≡ 0 = omega (arith, c.loop-j-test.false) in
    first_of_all (subst (λ (j : ℕ). AreFirstFrom c.args.board.now c.args.order.now j c.loop-j.first) none c.loop-j.invariant.are)

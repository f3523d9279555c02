use Rattle.std.proofs.Common.{◌∙◌, refl, arith}
use Rattle.sm_agents.proofs.OrderLemmas.{marks_none, marks_more, marks_end}
use Rattle.sm_agents.proofs.order.mark_all.Goals as goal

pub numbers-init : goal.numbers-init
numbers-init c = record {
  each = refl;
  marked = λ n below. marks_none _;
}

pub numbers-preserved : goal.numbers-preserved
numbers-preserved c = record {
  each = c.mark.ensures.each ∙ c.numbers.invariant.each;
  marked = λ n below. c.mark.ensures.marked n (omega (arith, below, c.numbers.invariant.each))
      ∙ marks_more _ _ c.args.numbers.now c.numbers.number-index n c.numbers-test.true (c.numbers.invariant.marked n below);
}

pub returns-clause-marked : goal.returns-clause-marked
returns-clause-marked c = λ n below. c.numbers.invariant.marked n below ∙ marks_end _ c.args.numbers.now c.numbers.number-index n c.numbers-test.false

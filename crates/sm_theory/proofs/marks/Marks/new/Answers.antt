use Rattle.sm_theory.proofs.Chains.Marking.{none_marked}
use Rattle.sm_theory.proofs.marks.Marks.new.Goals as goal

pub returns-clause-none : goal.returns-clause-none
returns-clause-none c = λ p x. none_marked c.loop-p.p p x c.loop-p.invariant

use Rattle.std.proofs.Common.{arith, length}
use Rattle.sm_theory.specs.Routes.{steps_back}
use Rattle.sm_lattice.proofs.StepLemmas.{back_step}
use Rattle.sm_lattice.proofs.stepping.steps_of.Goals as goal

pub back-preserved : goal.back-preserved
back-preserved c =
    let left = c.args.left.now in
    let right = c.args.right.now in
    back_step left right (length left) c.back.taken c.back.steps.items c.push_if.new.steps.items (steps_back left right (length left)) (omega arith) c.back.invariant (grind (arith, c.is_only_in.ensures, c.push_if.ensures))

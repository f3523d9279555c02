use Rattle.std.proofs.Common.{◌≡◌, ◌-◌, ◌++◌, length}
use Rattle.sm_theory.specs.Routes.{steps_back, steps_forth}
use Rattle.sm_lattice.proofs.stepping.steps_of.Given as goal

-- the steps so far, and those back that are still to come
abbrev pub invariant-back : goal.invariant-back
invariant-back l = l.steps.items ++ steps_back l.left l.right (length l.left - l.taken) ≡ steps_back l.left l.right (length l.left)

-- all steps back, and those forth so far
abbrev pub invariant-forth : goal.invariant-forth
invariant-forth l = l.steps.items ≡ steps_back l.left l.right (length l.left) ++ steps_forth l.left l.right l.k

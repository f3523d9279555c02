use Rattle.sm_law_yes.proofs.SolveRight.{solve_is_right}
use Rattle.sm_law_yes.proofs.laws.solve_is_right.Goals as goal

pub returns : goal.returns
returns c = solve_is_right c.solve_yes.ensures

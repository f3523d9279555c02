use Rattle.sm_law_agree.proofs.SolveAgree.{solve_agrees}
use Rattle.sm_law_agree.proofs.laws.solve_agrees.Goals as goal

pub returns : goal.returns
returns c = solve_agrees

use Rattle.sm_cert.proofs.SolveYes.{solve_yes}
use Rattle.sm_cert.proofs.laws.solve_yes.Goals as goal

pub returns : goal.returns
returns c = solve_yes

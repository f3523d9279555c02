use Rattle.sm_cert.proofs.SolveYes.{regret_yes}
use Rattle.sm_cert.proofs.laws.regret_yes.Goals as goal

pub returns : goal.returns
returns c = regret_yes

use Rattle.sm_theory.proofs.Routes.Shortest.{no_fewer_steps}
use Rattle.sm_theory.proofs.laws.no_fewer_steps.Goals as goal

pub returns : goal.returns
returns c = no_fewer_steps

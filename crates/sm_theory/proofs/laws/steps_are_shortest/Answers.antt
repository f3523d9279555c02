use Rattle.sm_theory.proofs.Routes.Shortest.{steps_are_shortest}
use Rattle.sm_theory.proofs.laws.steps_are_shortest.Goals as goal

pub returns : goal.returns
returns c = steps_are_shortest

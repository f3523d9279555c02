use Rattle.sm_theory.proofs.Chains.Places.{stable_places}
use Rattle.sm_theory.proofs.laws.stable_places.Goals as goal

pub returns : goal.returns
returns c = stable_places

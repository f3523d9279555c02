use Rattle.sm_theory.proofs.Medians.Places.{one_at_place}
use Rattle.sm_theory.proofs.laws.one_at_place.Goals as goal

pub returns : goal.returns
returns c = one_at_place

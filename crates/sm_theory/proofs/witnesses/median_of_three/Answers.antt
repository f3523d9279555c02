use Rattle.std.proofs.Common.{refl}
use Rattle.sm_theory.proofs.witnesses.median_of_three.Goals as goal

pub returns : goal.returns
returns c = (refl, refl)

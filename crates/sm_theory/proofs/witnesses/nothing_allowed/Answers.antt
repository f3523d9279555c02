use Rattle.std.proofs.Common.{refl}
use Rattle.sm_theory.proofs.witnesses.nothing_allowed.Goals as goal

pub returns : goal.returns
returns c = (refl, refl, refl, refl)

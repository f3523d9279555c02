use Rattle.std.proofs.Common.{refl}
use Rattle.sm_seats.proofs.witnesses.second_is_too_many.Goals as goal

pub returns : goal.returns
returns c = (refl, refl)

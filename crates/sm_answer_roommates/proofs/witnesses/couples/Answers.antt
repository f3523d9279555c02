use Rattle.std.proofs.Common.{refl}
use Rattle.sm_answer_roommates.proofs.witnesses.couples.Goals as goal

pub returns : goal.returns
returns c = refl

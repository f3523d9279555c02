use Rattle.std.proofs.Common.{refl}
use Rattle.sm_answer_weight.proofs.witnesses.worked_of_two.Goals as goal

pub returns : goal.returns
returns c = refl

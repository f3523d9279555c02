use Rattle.std.proofs.Common.{refl}
use Rattle.sm_answer_weight.proofs.witnesses.worked_answer.Goals as goal

pub returns : goal.returns
returns c = refl

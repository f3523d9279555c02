use Rattle.sm_theory.proofs.Flow.Witness.{middle_level_is}
use Rattle.sm_theory.proofs.witnesses.middle_level.Goals as goal

pub returns : goal.returns
returns c = middle_level_is

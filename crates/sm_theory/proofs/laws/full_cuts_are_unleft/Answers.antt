use Rattle.sm_theory.proofs.Flow.Lines.{full_cuts_are_unleft}
use Rattle.sm_theory.proofs.laws.full_cuts_are_unleft.Goals as goal

pub returns : goal.returns
returns c = full_cuts_are_unleft

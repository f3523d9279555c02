use Rattle.sm_theory.proofs.Tests.Markets.{left_over_is}
use Rattle.sm_theory.proofs.witnesses.left_over.Goals as goal

pub returns : goal.returns
returns c = left_over_is

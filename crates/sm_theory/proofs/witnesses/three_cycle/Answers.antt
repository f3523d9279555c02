use Rattle.sm_theory.proofs.Tests.Markets.{three_cycle_is}
use Rattle.sm_theory.proofs.witnesses.three_cycle.Goals as goal

pub returns : goal.returns
returns c = three_cycle_is

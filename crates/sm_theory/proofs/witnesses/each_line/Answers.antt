use Rattle.sm_theory.proofs.Flow.LinesWitness.{each_line}
use Rattle.sm_theory.proofs.witnesses.each_line.Goals as goal

pub returns : goal.returns
returns c = each_line

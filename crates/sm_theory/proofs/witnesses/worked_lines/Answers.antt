use Rattle.sm_theory.proofs.Flow.LinesWitness.{worked_lines}
use Rattle.sm_theory.proofs.witnesses.worked_lines.Goals as goal

pub returns : goal.returns
returns c = worked_lines

use Rattle.sm_theory.proofs.Flow.Lines.{flow_of_lines}
use Rattle.sm_theory.proofs.laws.flow_of_lines.Goals as goal

pub returns : goal.returns
returns c = flow_of_lines

use Rattle.sm_report.proofs.ReadLemmas.{one_line}
use Rattle.sm_report.proofs.laws.one_line_has_a_text.Goals as goal

pub returns : goal.returns
returns c = one_line

use Rattle.sm_report.proofs.FreeLines.{line_plain}
use Rattle.sm_report.proofs.laws.lines_are_plain.Goals as goal

pub returns : goal.returns
returns c = λ input line sound of. line_plain input sound line of

use Rattle.std.proofs.Common.{All, take}
use Rattle.sm_answer_weight.specs.Found.{IsFlowLine}
use Rattle.sm_answer_weight.proofs.finding.read_numbers.Given as goal

-- the numbers of the lines so far
abbrev pub invariant-loop-line : goal.invariant-loop-line
invariant-loop-line l = All IsFlowLine (take l.line-index l.flow)

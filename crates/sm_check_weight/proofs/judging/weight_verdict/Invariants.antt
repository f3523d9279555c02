use Rattle.std.proofs.Common.{map}
use Rattle.sm_report.specs.Heads.{HeadData}
use Rattle.sm_report.specs.Lines.{line_of}
use Rattle.sm_check_clauses.specs.Judging.{answer, Clauses}
use Rattle.sm_check_clauses.proofs.AnswerLemmas.{HoldAbove}
use Rattle.sm_check_weight.specs.Kept.{IsJudgeOf}
use Rattle.sm_check_weight.proofs.judging.weight_verdict.Given as goal

-- the clauses hold at the lines so far, and these are kept
abbrev pub invariant-loop-k : goal.invariant-loop-k
invariant-loop-k l = record {
  above : HoldAbove (Clauses (answer l.fn.weighed.instance.now (HeadData.Weight l.fn.weighed.by))) (map line_of l.lines) l.k;
  known : IsJudgeOf l.fn.weighed.instance.now l.fn.weighed.by (map line_of l.lines) l.k l.judge;
}

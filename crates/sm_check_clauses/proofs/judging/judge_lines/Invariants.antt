use Rattle.std.proofs.Common.{◌≡◌, take, map}
use Rattle.sm_report.specs.Lines.{line_of}
use Rattle.sm_check_clauses.specs.Judging.{Clauses}
use Rattle.sm_check_clauses.proofs.AnswerLemmas.{HoldAbove}
use Rattle.sm_check_clauses.proofs.judging.judge_lines.Given as goal

abbrev pub invariant-loop-k : goal.invariant-loop-k
invariant-loop-k g l = record {
  subject : g.J.Judge.subject l.judge ≡ g.J.Judge.subject l.initial.judge;
  above : HoldAbove (Clauses (g.J.Judge.subject l.initial.judge)) (map line_of l.lines) l.k;
  knows : g.J.Judge.knows l.judge (take l.k (map line_of l.lines));
}

use Rattle.std.proofs.Common.{ℕ, ◌<◌}
use Rattle.sm_trim.specs.Cutting.{cut_written, MayProposersEnd, DoFewEnd}
use Rattle.sm_trim.proofs.proposers.end_all.Given as goal

abbrev pub invariant-loop-r : goal.invariant-loop-r
invariant-loop-r l = record {
  may : MayProposersEnd (cut_written l.instance l.proposers l.reviewers) l.proposers l.after;
  few : (s : ℕ) → s < l.r → DoFewEnd (cut_written l.instance l.proposers l.reviewers) l.after s;
}

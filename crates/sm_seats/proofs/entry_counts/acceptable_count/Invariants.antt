use Rattle.sm_seats.proofs.TableLemmas.{IsCounted}
use Rattle.sm_seats.proofs.entry_counts.acceptable_count.Given as goal

abbrev pub invariant-loop-place : goal.invariant-loop-place
invariant-loop-place l = IsCounted l.instance.reviewers l.instance.proposers l.r l.place l.count

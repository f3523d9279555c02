use Rattle.sm_seats.proofs.TableLemmas.{IsCounted}
use Rattle.sm_seats.proofs.plain.acceptable_count.Given as goal

abbrev pub invariant-loop-place : goal.invariant-loop-place
invariant-loop-place l = IsCounted l.instance.proposers l.instance.reviewers l.p l.place l.count

use Rattle.sm_market.specs.Vectors.{rows_of}
use Rattle.sm_answer_median.proofs.CountLemmas.{AreCountedBelow}
use Rattle.sm_answer_median.proofs.counting.count_ranks.Given as goal

-- the ranks of the proposers so far are counted
abbrev pub invariant-loop-p : goal.invariant-loop-p
invariant-loop-p l = AreCountedBelow l.p l.ranks (rows_of l.initial.counts) (rows_of l.counts)

use Rattle.std.proofs.Common.{◌≡◌, map}
use Rattle.std.specs.List.{range_with_len}
use Rattle.sm_market.specs.Vectors.{rows_of}
use Rattle.sm_answer_median.proofs.CountLemmas.{no_ranks}
use Rattle.sm_answer_median.proofs.counting.no_counts.Given as goal

-- the counts of the proposers so far
abbrev pub invariant-loop-p : goal.invariant-loop-p
invariant-loop-p l = rows_of l.counts.items ≡ map (no_ranks l.instance) (range_with_len 0 l.p)

use Rattle.std.proofs.Common.{◌≡◌, take}
use Rattle.sm_market.specs.Vectors.{rows_of}
use Rattle.sm_answer_median.specs.RankCounts.{IsMedianCounted}
use Rattle.sm_answer_median.proofs.counting.middle_places.Given as goal

-- the places of the median so far
abbrev pub invariant-loop-p : goal.invariant-loop-p
invariant-loop-p l = (m : IsMedianCounted l.instance l.listed (rows_of l.counts)) → l.places.items ≡ take l.p m.places

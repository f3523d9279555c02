use Rattle.std.proofs.Common.{◌≤◌, ◌-◌}
use Rattle.sm_market.specs.Vectors.{rows_of}
use Rattle.sm_answer_median.specs.MedianAnswer.{most_listed}
use Rattle.sm_answer_median.specs.RankCounts.{AreCountedSoFar}
use Rattle.sm_answer_median.proofs.walking.count_listed.Given as goal

-- the ranks of the vectors that are listed are counted
abbrev pub invariant-matchings : goal.invariant-matchings
invariant-matchings l = record {
  within : l.listed ≤ most_listed;
  counted : AreCountedSoFar l.instance l.lister l.listed (rows_of l.counts);
}

abbrev pub decreases-matchings : goal.decreases-matchings
decreases-matchings l = most_listed - l.listed

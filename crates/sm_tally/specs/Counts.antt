-- What is counted of a rank vector.
use Rattle.std.specs.Prelude.{◌≡◌, ℕ, ◌^◌, ◌<◌, ◌==◌, nat_lt, List, sum, length, slice_index}
use Rattle.std.specs.List.{count_by}
use Rattle.sm_tally.specs.declared.rank_counts.RankCounts.{RankCounts}

-- the sum of the ranks, and how many are 1, 2, 3 and greater
pub record AreCountsOf (ranks : List ℕ) (counts : RankCounts) : Type 0 where
  pub sum_is : counts.sum ≡ sum ranks
  pub first : counts.profile.first ≡ count_by (λ r. r == 1) ranks
  pub second : counts.profile.second ≡ count_by (λ r. r == 2) ranks
  pub third : counts.profile.third ≡ count_by (λ r. r == 3) ranks
  pub greater : counts.profile.greater ≡ count_by (λ r. nat_lt 3 r) ranks

-- ranks and proposers that have numbers of 32 bits, with what is counted of the ranks
pub record AreKeptCounts (ranks : List ℕ) (counts : RankCounts) : Type 0 where
  pub are : AreCountsOf ranks counts
  pub few : length ranks < 2 ^ 32
  pub fit : (p : ℕ) → slice_index ranks p < 2 ^ 32

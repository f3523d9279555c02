-- The ranks that vectors give each proposer, by how often each rank is given.
use Rattle.std.specs.Prelude.{◌≡◌, ℕ, ◌+◌, ◌<◌, ◌≤◌, List, length, Option}
use Rattle.sm_lists.specs.Rows.{row}
use Rattle.sm_agents.specs.Written.{Written, row as written_row}
use Rattle.sm_instance.specs.Matching.{standing, IsMatching}
use Rattle.sm_theory.specs.Medians.{IsAtPlace, column}
use Rattle.sm_lattice.specs.Counts.{AreCountsOf}
use Rattle.sm_answer_list.specs.Underway.{AreListedSoFar}
use Rattle.sm_lister.specs.Listers.{Lister}
use Rattle.sm_answer_median.specs.MedianAnswer.{most_listed, AreAllListed, IsMedianOfAllowed}

-- for each proposer a count for each number up to the rank past its list; it says how many of the vectors give the proposer
-- that rank
pub record AreRankCounts (w : Written) (vectors rows : List (List ℕ)) : Type 0 where
  pub one_each : length rows ≡ length w.proposers
  pub ranks : (p : ℕ) → p < length w.proposers → length (row rows p) ≡ length (written_row w.proposers p) + 2
  pub counts : (p : ℕ) → p < length w.proposers → AreCountsOf (column vectors p) (row rows p)

-- they are counts of fewer vectors than are listed at most
pub record AreFewCounted (w : Written) (rows : List (List ℕ)) : Type 0 where
  pub vectors : List (List ℕ)
  pub counts : AreRankCounts w vectors rows
  pub few : length vectors < most_listed

-- so many vectors are listed so far, and their ranks are counted
pub record AreCountedSoFar (w : Written) (lister : Lister) (listed : ℕ) (rows : List (List ℕ)) : Type 0 where
  pub vectors : List (List ℕ)
  pub so_far : AreListedSoFar w lister vectors
  pub counts : AreRankCounts w vectors rows
  pub count : listed ≡ length vectors

-- so many vectors are all, and their ranks are counted
pub record AreAllCounted (w : Written) (listed : ℕ) (rows : List (List ℕ)) : Type 0 where
  pub vectors : List (List ℕ)
  pub all : AreAllListed w vectors
  pub counts : AreRankCounts w vectors rows
  pub count : listed ≡ length vectors

-- and the allowed stable matchings, of which there is one at least, have a median
pub record IsMedianCounted (w : Written) (listed : ℕ) (rows : List (List ℕ)) : Type 0 where
  pub vectors : List (List ℕ)
  pub places : List (Option ℕ)
  pub median : IsMedianOfAllowed w vectors places
  pub counts : AreRankCounts w vectors rows
  pub count : listed ≡ length vectors

-- of some counted ranks of p, the one that p gives its partner in a matching stands at a place of them
pub record IsCountedPlace (w : Written) (p : ℕ) (counts : List ℕ) (place : ℕ) : Type 0 where
  pub places : List (Option ℕ)
  pub matching : IsMatching w places
  pub ranks : List ℕ
  pub counted : AreCountsOf ranks counts
  pub long : length counts ≡ length (written_row w.proposers p) + 2
  pub some : 0 < place
  pub within : place ≤ length ranks
  pub at : IsAtPlace ranks place (standing w places p + 1)

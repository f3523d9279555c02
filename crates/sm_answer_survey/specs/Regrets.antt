-- What is kept of the last matching: ranks, the greater rank in each pair, and the greatest of these in each piece.
use Rattle.std.specs.Prelude.{◌≡◌, ◌⊎◌, ℕ, ◌+◌, ◌*◌, ◌<◌, ◌≤◌, List, length, slice_index, Option}
use Rattle.sm_agents.specs.Written.{Written}
use Rattle.sm_instance.specs.Matching.{held, standing, IsMatching}
use Rattle.sm_instance.specs.Ranks.{worse_rank}
use Rattle.sm_answer_survey.specs.declared.regrets.Regrets.{Regrets}

-- in each matching that gives p a partner of this rank, or nobody where the rank is one past p's list, n is the greater of the
-- ranks that p and the partner give each other
abbrev pub IsWorseRank : Written → (p rank n : ℕ) → Type 0
IsWorseRank w p rank n = (places : List (Option ℕ)) → IsMatching w places → standing w places p + 1 ≡ rank → n ≡ worse_rank w p (held places p)

-- for each proposer a rank, 0 if none has come, and the greater rank in the pair
pub record AreWorseRanks (w : Written) (ranks worse : List ℕ) : Type 0 where
  pub ranks_each : length ranks ≡ length w.proposers
  pub worse_each : length worse ≡ length w.proposers
  pub are : (p : ℕ) → IsWorseRank w p (slice_index ranks p) (slice_index worse p)

-- how many proposers a piece has
abbrev pub piece : ℕ
piece = 64

-- two lists have the same numbers in the piece that begins here
abbrev pub AreSameIn : ℕ → List ℕ → List ℕ → Type 0
AreSameIn from numbers others = (p : ℕ) → from ≤ p → p < from + piece → slice_index numbers p ≡ slice_index others p

-- what a list became is what it was, but for that piece
abbrev pub AreKeptBut : ℕ → List ℕ → List ℕ → Type 0
AreKeptBut from before after = (p : ℕ) → (p < from) ⊎ (from + piece ≤ p) → slice_index after p ≡ slice_index before p

-- a number of that piece
pub record IsReachedIn (from : ℕ) (numbers : List ℕ) (n : ℕ) : Type 0 where
  pub at : ℕ
  pub begins : from ≤ at
  pub ends : at < from + piece
  pub is : slice_index numbers at ≡ n

-- the greatest number of that piece, 0 where it has none
pub record IsGreatestIn (from : ℕ) (numbers : List ℕ) (n : ℕ) : Type 0 where
  pub bound : (p : ℕ) → from ≤ p → p < from + piece → slice_index numbers p ≤ n
  pub reached : (n ≡ 0) ⊎ IsReachedIn from numbers n

-- each piece has its greatest number
pub record AreGreatest (numbers greatest : List ℕ) : Type 0 where
  pub begins : (k : ℕ) → k < length greatest → k * piece < length numbers
  pub cover : length numbers ≤ length greatest * piece
  pub are : (k : ℕ) → k < length greatest → IsGreatestIn (k * piece) numbers (slice_index greatest k)

-- what is kept is right for the instance
pub record AreKeptOf (w : Written) (regrets : Regrets) : Type 0 where
  pub worse : AreWorseRanks w regrets.ranks regrets.worse.items
  pub greatest : AreGreatest regrets.worse.items regrets.greatest.items

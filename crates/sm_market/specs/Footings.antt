-- How the proposers of a cycle stand, and the reviewers of the pairs that follow theirs.
use Rattle.std.specs.Prelude.{◌≡◌, ℕ, ◌<◌, List, length, slice_index_or}
use Rattle.sm_market.specs.Lists.{Lists, place_of}
use Rattle.sm_market.specs.Cycles.{proposer_at, target_at}
use Rattle.sm_market.specs.declared.footing.Footing.{Footing}

-- the footing of pair i
abbrev pub footing_at : List Footing → ℕ → Footing
footing_at footings i = slice_index_or footings i (record { proposer = 0; reviewer = 0 })

-- where each proposer of a cycle has the reviewer of the next pair, they stand so
pub record AreNewFootings (l : Lists) (cycle : List (ℕ × ℕ)) (to : List Footing) : Type 0 where
  pub one_each : length to ≡ length cycle
  pub proposer : (i : ℕ) → i < length cycle → (footing_at to i).proposer ≡ place_of l.proposers (proposer_at cycle i) (target_at cycle i)
  pub reviewer : (i : ℕ) → i < length cycle → (footing_at to i).reviewer ≡ place_of l.reviewers (target_at cycle i) (proposer_at cycle i)

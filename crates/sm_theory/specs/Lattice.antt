-- The better and the worse of two places, and the places of both sides.
use Rattle.std.specs.Prelude.{ℕ, ◌==◌, List, Option, None, Some, map, min, max}
use Rattle.std.specs.List.{position}
use Rattle.sm_market.specs.Lists.{Lists, row, place_of}
use Rattle.sm_market.specs.Matching.{Places, standing}
-- the agents of a side, passed on
pub use Rattle.sm_market.specs.Lists.{agents}

-- the places of both sides where the proposers hold these: a reviewer holds the place of the first proposer on its
-- list that has it
abbrev pub with_proposers : Lists → List (Option ℕ) → Places
with_proposers l places = record {
  proposers = places;
  reviewers = map (λ r. position (λ p. standing l.proposers places p == place_of l.proposers p r) (row l.reviewers r)) (agents l.reviewers);
}

-- of two places on one list the better, and the worse; being unmatched is worse than every place
abbrev pub better : Option ℕ → Option ℕ → Option ℕ
better None o = o
better (Some i) None = Some i
better (Some i) (Some k) = Some (min i k)

-- the worse of two places; being unmatched is worse than every place
abbrev pub worse : Option ℕ → Option ℕ → Option ℕ
worse None o = None
worse (Some i) None = None
worse (Some i) (Some k) = Some (max i k)

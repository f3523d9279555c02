-- How the reviewers stand where the proposers are at their best or at their worst.
use Rattle.std.specs.Prelude.{ℕ, ◌≤◌}
use Rattle.sm_market.specs.Lists.{Lists}
use Rattle.sm_market.specs.Matching.{Places, standing}
use Rattle.sm_market.specs.Stable.{IsStable}

-- every reviewer stands as badly as in any stable matching (Gusfield and Irving 1989, theorem 1.2.3)
pub record IsWorstOfReviewers (l : Lists) (m : Places) : Type 0 where
  pub worst : (n : Places) → IsStable l n → (r : ℕ) → standing l.reviewers n.reviewers r ≤ standing l.reviewers m.reviewers r

-- every reviewer stands as well as in any stable matching
pub record IsBestOfReviewers (l : Lists) (m : Places) : Type 0 where
  pub best : (n : Places) → IsStable l n → (r : ℕ) → standing l.reviewers m.reviewers r ≤ standing l.reviewers n.reviewers r

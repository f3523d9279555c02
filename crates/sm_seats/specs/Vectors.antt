-- Rank vectors of an instance that a listing is about.
use Rattle.std.specs.Prelude.{◌≡◌, ℕ, List, Option}
use Rattle.sm_agents.specs.Written.{Written}
use Rattle.sm_instance.specs.Stable.{IsStable}
use Rattle.sm_instance.specs.Allowed.{IsAllowed}
use Rattle.sm_instance.specs.Ranks.{rank_vector_of}

-- the rank vector of a stable matching that the conditions of the instance allow
pub record IsAllowedRankVector (w : Written) (v : List ℕ) : Type 0 where
  pub places : List (Option ℕ)
  pub stable : IsStable w places
  pub allowed : IsAllowed w places
  pub vector : v ≡ rank_vector_of w places

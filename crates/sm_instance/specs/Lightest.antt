-- The lightest matching that the conditions of an instance allow.
use Rattle.std.specs.Prelude.{◌≡◌, ℕ, ◌≤◌, ◌⊎◌, List, Option, ◌≤ℤ◌, ◌<ℤ◌}
use Rattle.sm_agents.specs.Written.{Written}
use Rattle.sm_instance.specs.Matching.{standing}
use Rattle.sm_instance.specs.Stable.{IsStable}
use Rattle.sm_instance.specs.Allowed.{IsAllowed}
use Rattle.sm_instance.specs.Ranks.{weight_of, second_of}
use Rattle.sm_agents.specs.declared.kinds.Measure.{Measure}

-- an allowed stable matching of the least weight, and of those that have it the one that is best for all proposers
-- (Irving, Leather and Gusfield 1987; Gusfield and Irving 1989, section 3.6)
pub record IsLightest (by : Measure) (w : Written) (places : List (Option ℕ)) : Type 0 where
  pub stable : IsStable w places
  pub allowed : IsAllowed w places
  pub lightest : (others : List (Option ℕ)) → IsStable w others → IsAllowed w others → weight_of by w places ≤ℤ weight_of by w others
  pub best : (others : List (Option ℕ)) → IsStable w others → IsAllowed w others → weight_of by w others ≡ weight_of by w places
      → (p : ℕ) → standing w places p ≤ standing w others p

-- a matching is lighter than another: its first sum is smaller, or equal and its second sum is smaller
abbrev pub IsLighter : Measure → Written → (places others : List (Option ℕ)) → Type 0
IsLighter by w places others =
    (weight_of by w places <ℤ weight_of by w others)
    ⊎ ((weight_of by w places ≡ weight_of by w others) × (second_of by w places <ℤ second_of by w others))

-- an allowed stable matching than which none is lighter by both sums, and of those that have its sums the one that is best for
-- all proposers (Irving, Leather and Gusfield 1987; Gusfield and Irving 1989, section 3.6)
pub record IsLightestByBoth (by : Measure) (w : Written) (places : List (Option ℕ)) : Type 0 where
  pub stable : IsStable w places
  pub allowed : IsAllowed w places
  pub lightest : (others : List (Option ℕ)) → IsStable w others → IsAllowed w others → ¬ IsLighter by w others places
  pub best : (others : List (Option ℕ)) → IsStable w others → IsAllowed w others → weight_of by w others ≡ weight_of by w places
      → second_of by w others ≡ second_of by w places → (p : ℕ) → standing w places p ≤ standing w others p

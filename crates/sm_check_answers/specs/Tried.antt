-- What is kept of a vector's matching, so that the next one is tried only where it differs.
use Rattle.std.specs.Prelude.{◌≡◌, ℕ, ◌<◌, ◌≤◌, ◌⊎◌, Bool, true, false, List, length, Option, IfSome, slice_index, slice_index_or}
use Rattle.sm_agents.specs.Written.{Written, entry, place_of}
use Rattle.sm_instance.specs.Matching.{held, IsMatching}
use Rattle.sm_instance.specs.Stable.{Blocks, IsStable, IsGainLimit}
use Rattle.sm_check_clauses.specs.declared.verdicts.Reason.{Reason}
use Rattle.sm_check_clauses.specs.declared.verdicts.Reason.TheVariants as reason
use Rattle.sm_check_answers.specs.declared.tried.Tried.{Tried}

-- the gain limit of each reviewer
pub record AreLimits (w : Written) (places : List (Option ℕ)) (limits : List ℕ) : Type 0 where
  pub one_each : length limits ≡ length w.reviewers
  pub of : (r : ℕ) → r < length w.reviewers → IsGainLimit w places r (slice_index limits r)

-- whether a reviewer is touched, and that the one at the place that p holds, if any, is
abbrev pub is_touched : List Bool → ℕ → Bool
is_touched touched r = slice_index_or touched r false

-- the reviewer at the place that p holds is touched, if it holds one
abbrev pub IsTouchedAt : Written → List Bool → ℕ → Option ℕ → Type 0
IsTouchedAt w touched p place = IfSome place (λ i. is_touched touched (entry w.proposers p i) ≡ true)

-- p holds the same place in both, or leaves a touched reviewer for a touched one, as far as it has any
abbrev pub StaysOrTouches : Written → (old new : List (Option ℕ)) → List Bool → ℕ → Type 0
StaysOrTouches w old new touched p = (held old p ≡ held new p) ⊎ (IsTouchedAt w touched p (held old p) × IsTouchedAt w touched p (held new p))

-- the first k proposers touch the reviewers that they leave, and those to whom they come
pub record AreTouched (w : Written) (old new : List (Option ℕ)) (k : ℕ) (touched : List Bool) : Type 0 where
  pub one_each : length touched ≡ length w.reviewers
  pub told : (p : ℕ) → p < k → StaysOrTouches w old new touched p

-- nobody whom r lists at this place or behind it blocks with r
abbrev pub IsUnblockedFrom : Written → List (Option ℕ) → (r from : ℕ) → Type 0
IsUnblockedFrom w places r from = (q : ℕ) → from ≤ place_of w.reviewers r q → ¬ Blocks w places q r

-- p blocks with nobody whom it lists at this place or behind it
abbrev pub BlocksNoneFrom : Written → List (Option ℕ) → (p from : ℕ) → Type 0
BlocksNoneFrom w places p from = (r : ℕ) → from ≤ place_of w.proposers p r → ¬ Blocks w places p r

-- of the first k reviewers these are the gain limits, and those behind, from these numbers on, block with nobody; all
-- others have the limits and marks that they had
pub record AreSet (w : Written) (places : List (Option ℕ)) (k : ℕ) (old_limits limits : List ℕ) (old_touched touched : List Bool) : Type 0 where
  pub limits_each : length limits ≡ length w.reviewers
  pub touched_each : length touched ≡ length w.reviewers
  pub of : (r : ℕ) → r < k → IsGainLimit w places r (slice_index limits r)
  pub unblocked : (r : ℕ) → r < k → IsUnblockedFrom w places r (slice_index old_limits r)
  pub kept_limits : (r : ℕ) → k ≤ r → slice_index limits r ≡ slice_index old_limits r
  pub kept_touched : (r : ℕ) → k ≤ r → is_touched touched r ≡ is_touched old_touched r

-- what the first two clauses say of the places of a vector's ranks
abbrev pub StableHolds : Written → List (Option ℕ) → Reason → Type 0
StableHolds w places reason.NotAMatching = IsMatching w places
StableHolds w places reason.Blocked = IsStable w places
StableHolds w places _ = Unit {0}

-- there is room for the matchings of two vectors, and for the limits and marks of all reviewers
pub record HasTrialRoom (w : Written) (tried : Tried) : Type 0 where
  pub matching_each : length tried.matching.places.items ≡ length w.proposers
  pub next_each : length tried.next.places.items ≡ length w.proposers
  pub limits_each : length tried.limits.items ≡ length w.reviewers
  pub touched_each : length tried.touched.items ≡ length w.reviewers

-- what is kept of a stable matching: it, and how far each reviewer gains
pub record IsTried (w : Written) (places : List (Option ℕ)) (tried : Tried) : Type 0 where
  pub matching : tried.matching.places.items ≡ places
  pub stable : IsStable w places
  pub limits : AreLimits w places tried.limits.items

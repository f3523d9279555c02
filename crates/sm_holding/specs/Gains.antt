-- How well a matching serves its reviewers, and whom one proposer blocks with.
use Rattle.std.specs.Prelude.{◌≡◌, ℕ, ◌<◌, ◌≤◌, List, length, slice_index, Option, Some}
use Rattle.sm_agents.specs.Written.{Written, entry, place_of}
use Rattle.sm_instance.specs.Matching.{held}
use Rattle.sm_instance.specs.Stable.{HasWorse, Blocks, IsGainLimit}

-- the least liked of the proposers of r below k stands at this place of its list
pub record IsWorstBelow (w : Written) (places : List (Option ℕ)) (k r worst : ℕ) : Type 0 where
  pub above : (q i : ℕ) → q < k → held places q ≡ Some i → entry w.proposers q i ≡ r → place_of w.reviewers r q ≤ worst
  pub attained : (p : ℕ) → place_of w.reviewers r p < worst → HasWorse w places r p

-- and so for each reviewer
pub record AreWorstBelow (w : Written) (places : List (Option ℕ)) (k : ℕ) (worst : List ℕ) : Type 0 where
  pub one_each : length worst ≡ length w.reviewers
  pub each : (r : ℕ) → r < length w.reviewers → IsWorstBelow w places k r (slice_index worst r)

-- of all proposers
abbrev pub AreWorst : Written → List (Option ℕ) → List ℕ → Type 0
AreWorst w places worst = AreWorstBelow w places (length w.proposers) worst

-- each reviewer gains by those whom it lists before its place here, and by nobody else
pub record AreGainLimits (w : Written) (places : List (Option ℕ)) (limits : List ℕ) : Type 0 where
  pub one_each : length limits ≡ length w.reviewers
  pub each : (r : ℕ) → r < length w.reviewers → IsGainLimit w places r (slice_index limits r)

-- p blocks with nobody
abbrev pub BlocksNone : Written → List (Option ℕ) → ℕ → Type 0
BlocksNone w places p = (r : ℕ) → ¬ Blocks w places p r

-- r is the first on the list of p with which p blocks
pub record IsFirstWith (w : Written) (places : List (Option ℕ)) (p r : ℕ) : Type 0 where
  pub blocks : Blocks w places p r
  pub earlier : (s : ℕ) → place_of w.proposers p s < place_of w.proposers p r → ¬ Blocks w places p s

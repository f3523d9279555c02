-- Blocking pairs, stable matchings, and the best of these for each side.
use Rattle.std.specs.Prelude.{◌≡◌, ℕ, ◌<◌, ◌≤◌, ◌⊎◌, List, Option, Some, length}
use Rattle.sm_agents.specs.Written.{Written, entry, place_of, capacity_of, IsAcceptable, row}
use Rattle.sm_instance.specs.Matching.{held, standing, load, IsMatching}
use Rattle.sm_agents.specs.declared.kinds.Side.{Side}
use Rattle.sm_agents.specs.declared.kinds.Side.TheVariants.{Proposers, Reviewers}

-- r has a proposer that it likes less than p
pub record HasWorse (w : Written) (places : List (Option ℕ)) (r p : ℕ) : Type 0 where
  pub other : ℕ
  pub at : ℕ
  pub holds : held places other ≡ Some at
  pub there : entry w.proposers other at ≡ r
  pub worse : place_of w.reviewers r p < place_of w.reviewers r other

-- p and r block a matching: they are acceptable to each other, p would rather have r than stay as it stands, and r has a
-- free place or a proposer that it likes less (Manlove 2013, section 3.2; for capacities of 1 Gusfield and Irving 1989,
-- section 1.1)
pub record Blocks (w : Written) (places : List (Option ℕ)) (p r : ℕ) : Type 0 where
  pub acceptable : IsAcceptable w p r
  pub proposer_gains : place_of w.proposers p r < standing w places p
  pub reviewer_gains : (load w places r < capacity_of w.reviewers r) ⊎ HasWorse w places r p

-- a stable matching: no pair blocks it
pub record IsStable (w : Written) (places : List (Option ℕ)) : Type 0 where
  pub matching : IsMatching w places
  pub unblocked : (p r : ℕ) → ¬ Blocks w places p r

-- the first pair that blocks, by proposer and then by place on its list
pub record IsFirstBlocking (w : Written) (places : List (Option ℕ)) (p r : ℕ) : Type 0 where
  pub blocks : Blocks w places p r
  pub earlier_proposers : (q s : ℕ) → q < p → ¬ Blocks w places q s
  pub earlier_places : (s : ℕ) → place_of w.proposers p s < place_of w.proposers p r → ¬ Blocks w places p s

-- the stable matching in which every proposer stands as well as in any
-- (Gusfield and Irving 1989, theorem 1.2.2; Manlove 2013, theorem 3.7)
pub record IsProposersBest (w : Written) (places : List (Option ℕ)) : Type 0 where
  pub stable : IsStable w places
  pub best : (others : List (Option ℕ)) → IsStable w others → (p : ℕ) → standing w places p ≤ standing w others p

-- the stable matching in which every proposer stands as badly as in any
-- (Gusfield and Irving 1989, theorem 1.2.3)
pub record IsReviewersBest (w : Written) (places : List (Option ℕ)) : Type 0 where
  pub stable : IsStable w places
  pub worst : (others : List (Option ℕ)) → IsStable w others → (p : ℕ) → standing w others p ≤ standing w places p

-- the best stable matching of a side
abbrev pub IsBestOf : Side → Written → List (Option ℕ) → Type 0
IsBestOf Proposers w places = IsProposersBest w places
IsBestOf Reviewers w places = IsReviewersBest w places

-- r gains by those whom it lists before this place, and by nobody else
pub record IsGainLimit (w : Written) (places : List (Option ℕ)) (r limit : ℕ) : Type 0 where
  pub gains : (p : ℕ) → place_of w.reviewers r p < limit → (load w places r < capacity_of w.reviewers r) ⊎ HasWorse w places r p
  pub others : (p : ℕ) → place_of w.reviewers r p < length (row w.reviewers r) → limit ≤ place_of w.reviewers r p
      → ¬ ((load w places r < capacity_of w.reviewers r) ⊎ HasWorse w places r p)

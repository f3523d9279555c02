-- How those whom a rotation moves stand before it is eliminated, and after it.
use Rattle.std.specs.Prelude.{◌≡◌, ℕ, ◌<◌, ◌⊎◌, List, Option, length, slice_index}
use Rattle.sm_market.specs.Lists.{Lists, place_of}
use Rattle.sm_market.specs.Matching.{Places, standing, IsMatching}
use Rattle.sm_theory.specs.Rotations.{IsExposed, proposer_at, target_at, eliminated}
use Rattle.sm_theory.specs.Marks.{marks_of, IsLastOf, IsBetween}
use Rattle.sm_market.specs.declared.footing.Footing.{Footing}
-- the footing of pair i, passed on
pub use Rattle.sm_market.specs.Footings.{footing_at}

-- how the proposers of the first n pairs stand in a matching, and the reviewers of the pairs that follow these
pub record AreFootings (l : Lists) (m : Places) (rotation : List (ℕ × ℕ)) (n : ℕ) (footings : List Footing) : Type 0 where
  pub one_each : length footings ≡ n
  pub proposer : (i : ℕ) → i < n → (footing_at footings i).proposer ≡ standing l.proposers m.proposers (proposer_at rotation i)
  pub reviewer : (i : ℕ) → i < n → (footing_at footings i).reviewer ≡ standing l.reviewers m.reviewers (target_at rotation i)

-- so they stand before and after the rotation is eliminated, from a matching at which it is exposed
pub record AreSteps (l : Lists) (rotation : List (ℕ × ℕ)) (before after : List Footing) : Type 0 where
  pub was : Places
  pub matching : IsMatching l was
  pub exposed : IsExposed l was rotation
  pub before_are : AreFootings l was rotation (length rotation) before
  pub after_are : AreFootings l (eliminated l was rotation) rotation (length rotation) after

-- a proposer of the first n pairs moves past an entry that is marked with i
pub record IsPassedAlong (rotation : List (ℕ × ℕ)) (before after : List Footing) (n : ℕ) (marks : List (List (Option ℕ))) (i : ℕ) : Type 0 where
  pub pair : ℕ
  pub pair_in : pair < n
  pub between : IsBetween (marks_of marks (proposer_at rotation pair)) (footing_at before pair).proposer (footing_at after pair).proposer i

-- what the first n pairs are found to need, by how their proposers stand
abbrev pub IsFoundAlong : List (ℕ × ℕ) → (before after : List Footing) → ℕ → List (Option ℕ) → List (List (Option ℕ)) → ℕ → Type 0
IsFoundAlong rotation before after n notes marks i = IsLastOf rotation n notes i ⊎ IsPassedAlong rotation before after n marks i

-- for each proposer of a rotation the place to which it moves
pub record AreTargetPlaces (l : Lists) (rotation : List (ℕ × ℕ)) (places : List ℕ) : Type 0 where
  pub one_each : length places ≡ length l.proposers
  pub each : (i : ℕ) → i < length rotation → slice_index places (proposer_at rotation i) ≡ place_of l.proposers (proposer_at rotation i) (target_at rotation i)

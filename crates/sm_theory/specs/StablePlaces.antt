-- The places and the levels that proposers have in stable matchings.
use Rattle.std.specs.Prelude.{◌≡◌, ℕ, ◌<◌, ◌↔◌, List, length, slice_index, Contains}
use Rattle.sm_market.specs.Lists.{Lists, row, place_of}
use Rattle.sm_market.specs.Matching.{Places, standing}
use Rattle.sm_market.specs.Stable.{IsStable}
use Rattle.sm_theory.specs.Rotations.{DoesMove, reviewer_after}
use Rattle.sm_theory.specs.Chains.{rotation_at}
use Rattle.sm_theory.specs.Vectors.{level_of}

-- p stands at place i in some stable matching; one past its list, where it is unmatched in them
pub record IsStablePlace (l : Lists) (p i : ℕ) : Type 0 where
  pub matching : Places
  pub stable : IsStable l matching
  pub stands : standing l.proposers matching.proposers p ≡ i

-- a rotation of the chain moves p to place i
pub record IsMovedTo (l : Lists) (rotations : List (List (ℕ × ℕ))) (p i : ℕ) : Type 0 where
  pub rotation : ℕ
  pub within : rotation < length rotations
  pub moves : DoesMove (rotation_at rotations rotation) p
  pub place : place_of l.proposers p (reviewer_after (rotation_at rotations rotation) p) ≡ i

-- p stands at this level in some stable matching
pub record IsStableLevel (l : Lists) (levels : List (List ℕ)) (p level : ℕ) : Type 0 where
  pub matching : Places
  pub stable : IsStable l matching
  pub at_level : level_of l levels matching p ≡ level

-- numbers that rise
abbrev pub AreRising : List ℕ → Type 0
AreRising xs = (a b : ℕ) → a < b → b < length xs → slice_index xs a < slice_index xs b

-- the levels that p has in stable matchings, rising
pub record AreStableLevelsOf (l : Lists) (levels : List (List ℕ)) (p : ℕ) (stable : List ℕ) : Type 0 where
  pub rising : AreRising stable
  pub exact : (level : ℕ) → Contains stable level ↔ IsStableLevel l levels p level

-- the same for each proposer
pub record AreStableLevels (l : Lists) (levels rows : List (List ℕ)) : Type 0 where
  pub one_each : length rows ≡ length l.proposers
  pub of : (p : ℕ) → p < length l.proposers → AreStableLevelsOf l levels p (row rows p)

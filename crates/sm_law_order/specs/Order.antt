-- The order of the rotations of a chain, and what it means of matchings and of other chains.
use Rattle.std.specs.Prelude.{◌≡◌, ℕ, ◌<◌, ◌≤◌, Bool, List, length}
use Rattle.sm_market.specs.Lists.{Lists, place_of}
use Rattle.sm_market.specs.Matching.{Places, standing}
use Rattle.sm_theory.specs.Rotations.{proposer_at, target_at}
use Rattle.sm_theory.specs.Chains.{rotation_at, IsNeededBy}
use Rattle.sm_theory.specs.ClosedSets.{IsMember, IsSameCycle}
use Rattle.sm_theory.specs.Net.{IsReachable}

-- rotation i is a predecessor of rotation j, of the first kind or of the second
pub record IsPredecessor (l : Lists) (rotations : List (List (ℕ × ℕ))) (i j : ℕ) : Type 0 where
  pub early_in : i < length rotations
  pub late_in : j < length rotations
  pub needed : IsNeededBy l (rotation_at rotations i) (rotation_at rotations j)

-- rotation i precedes rotation j: it is j, or it is reached from j by predecessors of predecessors. This is the reflexive
-- and transitive closure of the two kinds of predecessor
abbrev pub Precedes : Lists → List (List (ℕ × ℕ)) → ℕ → ℕ → Type 0
Precedes l rotations i j = IsReachable (IsPredecessor l rotations) i j

-- with each rotation the set has all that precede it
pub record IsDownSet (l : Lists) (rotations : List (List (ℕ × ℕ))) (set : List Bool) : Type 0 where
  pub one_each : length set ≡ length rotations
  pub down : (i j : ℕ) → Precedes l rotations i j → IsMember set j → IsMember set i

-- the rotation is eliminated at a matching: each of its proposers has the next reviewer there, or worse
-- (Gusfield and Irving 1989, section 2.5)
pub record IsEliminated (l : Lists) (m : Places) (rotation : List (ℕ × ℕ)) : Type 0 where
  pub moved : (i : ℕ) → i < length rotation → let p = proposer_at rotation i in place_of l.proposers p (target_at rotation i) ≤ standing l.proposers m.proposers p

-- in a sequence of rotations the rotation comes at place b or before it
pub record ComesBy (sequence : List (List (ℕ × ℕ))) (b : ℕ) (rotation : List (ℕ × ℕ)) : Type 0 where
  pub at : ℕ
  pub not_later : at ≤ b
  pub same : IsSameCycle (rotation_at sequence at) rotation

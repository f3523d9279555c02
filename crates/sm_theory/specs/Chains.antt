-- Complete chains of rotations, and the two kinds of predecessor.
use Rattle.std.specs.Prelude.{◌≡◌, ℕ, zero, suc, ◌<◌, ◌⊎◌, List, [], length, slice_index, slice_index_or, Contains}
use Rattle.sm_market.specs.Lists.{Lists, row, place_of}
use Rattle.sm_market.specs.Matching.{Places}
use Rattle.sm_market.specs.Stable.{IsProposersBest}
use Rattle.sm_theory.specs.Rotations.{proposer_at, reviewer_at, target_at, next_in, IsExposed, IsLowestExposed, eliminated}

-- rotation k of a chain
abbrev pub rotation_at : List (List (ℕ × ℕ)) → ℕ → List (ℕ × ℕ)
rotation_at rotations k = slice_index_or rotations k []

-- the matching once the first k rotations are eliminated in turn
abbrev pub stage : Lists → Places → List (List (ℕ × ℕ)) → ℕ → Places
stage l first rotations zero = first
stage l first rotations (suc k) = eliminated l (stage l first rotations k) (rotation_at rotations k)

-- rotations that can be eliminated one after the other from a matching
pub record AreEliminable (l : Lists) (first : Places) (rotations : List (List (ℕ × ℕ))) : Type 0 where
  pub exposed : (k : ℕ) → k < length rotations → IsExposed l (stage l first rotations k) (rotation_at rotations k)

-- a chain from the proposers' best, each rotation exposed at its turn, and none exposed at the end
-- (Gusfield and Irving 1989, section 2.5)
pub record IsCompleteChain (l : Lists) (first : Places) (rotations : List (List (ℕ × ℕ))) : Type 0 where
  pub from_best : IsProposersBest l first
  pub exposed : (k : ℕ) → k < length rotations → IsExposed l (stage l first rotations k) (rotation_at rotations k)
  pub complete : (other : List (ℕ × ℕ)) → ¬ IsExposed l (stage l first rotations (length rotations)) other

-- the chain as printed: a complete one in which each rotation begins with the lowest-numbered proposer of all the
-- rotations that are exposed at its turn
pub record IsPrintedChain (l : Lists) (first : Places) (rotations : List (List (ℕ × ℕ))) : Type 0 where
  pub chain : IsCompleteChain l first rotations
  pub lowest : (k : ℕ) → k < length rotations → IsLowestExposed l (stage l first rotations k) (rotation_at rotations k)

-- the first kind of predecessor: `early` moves some proposer to a reviewer from which `late` moves it
pub record MovesItBefore (early late : List (ℕ × ℕ)) : Type 0 where
  pub pair : ℕ
  pub pair_in : pair < length early
  pub other : ℕ
  pub other_in : other < length late
  pub same_proposer : proposer_at early pair ≡ proposer_at late other
  pub same_reviewer : target_at early pair ≡ reviewer_at late other

-- the second kind: `late` moves some p past a reviewer r on p's list, and `early` moves r from a proposer that it likes
-- less than p to one that it likes more (Gusfield and Irving 1989, chapter 3, in a form of this project's own)
pub record MakesItPass (l : Lists) (early late : List (ℕ × ℕ)) : Type 0 where
  pub pair : ℕ
  pub pair_in : pair < length early
  pub other : ℕ
  pub other_in : other < length late
  pub behind : let p = proposer_at late other in place_of l.proposers p (reviewer_at late other) < place_of l.proposers p (target_at early pair)
  pub before : let p = proposer_at late other in place_of l.proposers p (target_at early pair) < place_of l.proposers p (target_at late other)
  pub gains : let r = target_at early pair in place_of l.reviewers r (proposer_at early pair) < place_of l.reviewers r (proposer_at late other)
  pub loses : let r = target_at early pair in place_of l.reviewers r (proposer_at late other) < place_of l.reviewers r (proposer_at early (next_in early pair))

-- `early` is a predecessor of `late`
abbrev pub IsNeededBy : Lists → List (ℕ × ℕ) → List (ℕ × ℕ) → Type 0
IsNeededBy l early late = MovesItBefore early late ⊎ MakesItPass l early late

-- the numbers of all predecessors of rotation j, rising
pub record AreNeedsOf (l : Lists) (rotations : List (List (ℕ × ℕ))) (j : ℕ) (needs : List ℕ) : Type 0 where
  pub rising : (a b : ℕ) → a < b → b < length needs → slice_index needs a < slice_index needs b
  pub sound : (a : ℕ) → a < length needs → slice_index needs a < length rotations
  pub each : (a : ℕ) → a < length needs → IsNeededBy l (rotation_at rotations (slice_index needs a)) (rotation_at rotations j)
  pub all : (i : ℕ) → i < length rotations → IsNeededBy l (rotation_at rotations i) (rotation_at rotations j) → Contains needs i

-- for each rotation the numbers of its predecessors, rising
pub record AreNeeds (l : Lists) (rotations : List (List (ℕ × ℕ))) (needs : List (List ℕ)) : Type 0 where
  pub one_each : length needs ≡ length rotations
  pub each : (j : ℕ) → j < length rotations → AreNeedsOf l rotations j (row needs j)

-- Following successors from one proposer to the next.
use Rattle.std.specs.Prelude.{◌≡◌, ◌≢◌, ℕ, ◌+◌, ◌<◌, List, Some, length}
use Rattle.sm_market.specs.Lists.{Lists, place_of}
use Rattle.sm_market.specs.Matching.{Places, held}
use Rattle.sm_theory.specs.Rotations.{IsSuccessor, IsExposed, proposer_at, reviewer_at}

-- p has r, and q has p's successor
pub record IsStep (l : Lists) (m : Places) (p r q : ℕ) : Type 0 where
  pub paired : held m.proposers p ≡ Some (place_of l.proposers p r)
  pub target : ℕ
  pub next : IsSuccessor l m p (place_of l.proposers p target)
  pub has : held m.proposers q ≡ Some (place_of l.proposers q target)

-- from p the successors lead along the pairs to q, and haven't come back to p
pub record IsSuccessorWalk (l : Lists) (m : Places) (p : ℕ) (pairs : List (ℕ × ℕ)) (q : ℕ) : Type 0 where
  pub empty : length pairs ≡ 0 → q ≡ p
  pub first : 0 < length pairs → proposer_at pairs 0 ≡ p
  pub steps : (k : ℕ) → k + 1 < length pairs → IsStep l m (proposer_at pairs k) (reviewer_at pairs k) (proposer_at pairs (k + 1))
  pub last : (k : ℕ) → k + 1 ≡ length pairs → IsStep l m (proposer_at pairs k) (reviewer_at pairs k) q
  pub away : (k : ℕ) → 0 < k → k < length pairs → proposer_at pairs k ≢ p
  pub still_away : 0 < length pairs → q ≢ p

-- the pairs are an exposed rotation that begins with p
pub record IsRotationFrom (l : Lists) (m : Places) (p : ℕ) (pairs : List (ℕ × ℕ)) : Type 0 where
  pub exposed : IsExposed l m pairs
  pub begins : proposer_at pairs 0 ≡ p

-- no exposed rotation has p
pub record IsInNone (l : Lists) (m : Places) (p : ℕ) : Type 0 where
  pub absent : (other : List (ℕ × ℕ)) → IsExposed l m other → (i : ℕ) → i < length other → proposer_at other i ≢ p

-- The walk along successors with one stack of proposers.
use Rattle.std.specs.Prelude.{◌≡◌, ℕ, ◌+◌, ◌<◌, ◌≤◌, ◌⊎◌, Bool, true, false, List, Option, Some, None, length, slice_index, slice_index_or, slice_set}
use Rattle.sm_market.specs.Lists.{Lists, place_of}
use Rattle.sm_market.specs.Matching.{Places, held, standing}
use Rattle.sm_market.specs.Stable.{IsStable}
use Rattle.sm_theory.specs.Rotations.{IsSuccessor, IsExposed, proposer_at, reviewer_at}
-- who has whose successor, passed on
pub use Rattle.sm_theory.specs.Rotations.{IsNext}
use Rattle.sm_theory.specs.Chains.{rotation_at, stage}
use Rattle.sm_rotations.specs.declared.walk.WalkStep.{WalkStep}
use Rattle.sm_rotations.specs.declared.walk.WalkStep.TheVariants.{Over, On, Back}

-- no stable matching is worse for p
pub record IsAtWorst (l : Lists) (m : Places) (p : ℕ) : Type 0 where
  pub worst : (n : Places) → IsStable l n → standing l.proposers n.proposers p ≤ standing l.proposers m.proposers p

-- where p stands on the stack
abbrev pub spot_of : List (Option ℕ) → ℕ → Option ℕ
spot_of spots p = slice_index_or spots p None

-- each proposer on the stack is followed by the one that has its successor, and each is there once, at its spot
pub record IsStack (l : Lists) (m : Places) (stack : List ℕ) (spots : List (Option ℕ)) : Type 0 where
  pub spots_each : length spots ≡ length l.proposers
  pub in_range : (k : ℕ) → k < length stack → slice_index stack k < length l.proposers
  pub at : (k : ℕ) → k < length stack → spot_of spots (slice_index stack k) ≡ Some k
  pub inside : (p k : ℕ) → spot_of spots p ≡ Some k → k < length stack
  pub only : (p k : ℕ) → spot_of spots p ≡ Some k → slice_index stack k ≡ p
  pub next : (k : ℕ) → k + 1 < length stack → IsNext l m (slice_index stack k) (slice_index stack (k + 1))

-- the pairs are those of the stack from a place on
pub record AreStackPairs (l : Lists) (m : Places) (stack : List ℕ) (from : ℕ) (pairs : List (ℕ × ℕ)) : Type 0 where
  pub as_many : from + length pairs ≡ length stack
  pub who : (k : ℕ) → k < length pairs → proposer_at pairs k ≡ slice_index stack (from + k)
  pub paired : (k : ℕ) → k < length pairs → held m.proposers (proposer_at pairs k) ≡ Some (place_of l.proposers (proposer_at pairs k) (reviewer_at pairs k))

-- whether p is finished
abbrev pub is_finished : List Bool → ℕ → Bool
is_finished finished p = slice_index_or finished p false

-- the walk with this matching: each rotation that was found is exposed at its turn, and they lead to the matching; who is
-- finished is at its worst; the stack goes along successors
pub record IsWalking (l : Lists) (first m : Places) (rotations : List (List (ℕ × ℕ))) (finished : List Bool) (stack : List ℕ) (spots : List (Option ℕ)) : Type 0 where
  pub stable : IsStable l m
  pub exposed : (k : ℕ) → k < length rotations → IsExposed l (stage l first rotations k) (rotation_at rotations k)
  pub at_end : m ≡ stage l first rotations (length rotations)
  pub finished_each : length finished ≡ length l.proposers
  pub at_worst : (p : ℕ) → is_finished finished p ≡ true → IsAtWorst l m p
  pub on_stack : IsStack l m stack spots

-- p stands on the stack at a place or above it
pub record IsOnStack (stack : List ℕ) (from p : ℕ) : Type 0 where
  pub spot : ℕ
  pub above : from ≤ spot
  pub inside : spot < length stack
  pub is : slice_index stack spot ≡ p

-- the proposers of the stack from a place on are taken off
pub record AreTakenOff (stack : List ℕ) (from : ℕ) (before after : List (Option ℕ)) : Type 0 where
  pub one_each : length after ≡ length before
  pub gone : (k : ℕ) → from ≤ k → k < length stack → spot_of after (slice_index stack k) ≡ None
  pub only : (p : ℕ) → (spot_of after p ≡ spot_of before p) ⊎ ((spot_of after p ≡ None) × IsOnStack stack from p)

-- the top is taken off the stack, and finished
pub record IsTopTakenOff (stack rest : List ℕ) (before after : List (Option ℕ)) (old new : List Bool) : Type 0 where
  pub top : ℕ
  pub last : top + 1 ≡ length stack
  pub short : length rest ≡ top
  pub same : (k : ℕ) → k < top → slice_index rest k ≡ slice_index stack k
  pub spots : after ≡ slice_set before (slice_index stack top) None
  pub finished : new ≡ slice_set old (slice_index stack top) true

-- no stable matching is worse for the top of the stack
pub record IsTopAtWorst (l : Lists) (m : Places) (stack : List ℕ) : Type 0 where
  pub top : ℕ
  pub last : top + 1 ≡ length stack
  pub worst : IsAtWorst l m (slice_index stack top)

-- q is neither finished nor on the stack, and has the successor of the top, if there is a top
pub record CanFollowTop (l : Lists) (m : Places) (stack : List ℕ) (spots : List (Option ℕ)) (finished : List Bool) (q : ℕ) : Type 0 where
  pub in_range : q < length l.proposers
  pub off : spot_of spots q ≡ None
  pub unfinished : is_finished finished q ≡ false
  pub next : (top : ℕ) → top + 1 ≡ length stack → IsNext l m (slice_index stack top) q

-- the proposer at a spot of the stack has the successor of the top
pub record LeadsBack (l : Lists) (m : Places) (stack : List ℕ) (from : ℕ) : Type 0 where
  pub top : ℕ
  pub last : top + 1 ≡ length stack
  pub from_in : from ≤ top
  pub next : IsNext l m (slice_index stack top) (slice_index stack from)

-- what the walk may do next
abbrev pub IsWalkStep : Lists → Places → List ℕ → List (Option ℕ) → List Bool → WalkStep → Type 0
IsWalkStep l m stack spots finished Over = IsTopAtWorst l m stack
IsWalkStep l m stack spots finished (On q) = CanFollowTop l m stack spots finished q
IsWalkStep l m stack spots finished (Back from) = LeadsBack l m stack from

-- the successors of all proposers on the stack but the last n stand where the search for them ended
pub record AreFound (l : Lists) (m : Places) (stack : List ℕ) (n : ℕ) (from : List ℕ) : Type 0 where
  pub each : (k : ℕ) → k + n < length stack → IsSuccessor l m (slice_index stack k) (slice_index from (slice_index stack k))

-- so they do behind a step, that of the top too unless it is over
abbrev pub IsFoundStep : Lists → Places → List ℕ → List ℕ → WalkStep → Type 0
IsFoundStep l m stack from Over = AreFound l m stack 1 from
IsFoundStep l m stack from (On q) = AreFound l m stack 0 from
IsFoundStep l m stack from (Back spot) = AreFound l m stack 0 from

-- Successors, rotations, and their elimination. A rotation is a cycle of pairs of a proposer and a reviewer.
use Rattle.std.specs.Prelude.{◌≡◌, ◌≢◌, ℕ, ◌<◌, ◌≤◌, nat_lt, Bool, List, Some, IsSome, length}
use Rattle.sm_market.specs.Lists.{Lists, row, entry, place_of}
use Rattle.sm_market.specs.Matching.{Places, held, standing}
use Rattle.sm_theory.specs.Lattice.{with_proposers}
-- the pairs of a cycle, passed on under their names
pub use Rattle.sm_market.specs.Cycles.{proposer_at, reviewer_at, next_in, target_at, pair_of, place_after, places_after, CanTurn}

-- the reviewer at place i of p's list prefers p to what it has; an unmatched one prefers every proposer on its list
abbrev pub WouldTake : Lists → Places → ℕ → ℕ → Type 0
WouldTake l m p i =
    let r = entry l.proposers p i in
    place_of l.reviewers r p < standing l.reviewers m.reviewers r

-- i is the place of p's successor: the first reviewer behind p's partner that would take p, if that one is matched.
-- Where it is unmatched, and where p is unmatched, there is no successor.
-- (Gusfield and Irving 1989, section 2.5; unmatched reviewers as in Manlove 2013, section 2.2)
pub record IsSuccessor (l : Lists) (m : Places) (p i : ℕ) : Type 0 where
  pub on_list : i < length (row l.proposers p)
  pub behind : standing l.proposers m.proposers p < i
  pub takes : WouldTake l m p i
  pub first : (j : ℕ) → standing l.proposers m.proposers p < j → j < i → ¬ WouldTake l m p j
  pub matched : IsSome (held m.reviewers (entry l.proposers p i))

-- q has p's successor
pub record IsNext (l : Lists) (m : Places) (p q : ℕ) : Type 0 where
  pub target : ℕ
  pub next : IsSuccessor l m p (place_of l.proposers p target)
  pub has : held m.proposers q ≡ Some (place_of l.proposers q target)

-- a rotation exposed at a matching: a cycle of its pairs in which each proposer's successor is the reviewer of the
-- next pair (Gusfield and Irving 1989, section 2.5)
pub record IsExposed (l : Lists) (m : Places) (rotation : List (ℕ × ℕ)) : Type 0 where
  pub not_empty : 0 < length rotation
  pub distinct : (i j : ℕ) → i < j → j < length rotation → proposer_at rotation i ≢ proposer_at rotation j
  pub paired : (i : ℕ) → i < length rotation → held m.proposers (proposer_at rotation i) ≡ Some (place_of l.proposers (proposer_at rotation i) (reviewer_at rotation i))
  pub next : (i : ℕ) → i < length rotation → IsSuccessor l m (proposer_at rotation i) (place_of l.proposers (proposer_at rotation i) (target_at rotation i))

-- no rotation is exposed
pub record IsNothingExposed (l : Lists) (m : Places) : Type 0 where
  pub none : (other : List (ℕ × ℕ)) → ¬ IsExposed l m other

-- no exposed rotation has a proposer below the bound
pub record IsNoneBelow (l : Lists) (m : Places) (bound : ℕ) : Type 0 where
  pub none : (other : List (ℕ × ℕ)) → IsExposed l m other → (i : ℕ) → i < length other → bound ≤ proposer_at other i

-- an exposed rotation that begins with the lowest-numbered proposer of all exposed rotations
pub record IsLowestExposed (l : Lists) (m : Places) (rotation : List (ℕ × ℕ)) : Type 0 where
  pub exposed : IsExposed l m rotation
  pub lowest : (other : List (ℕ × ℕ)) → IsExposed l m other → (i : ℕ) → i < length other → proposer_at rotation 0 ≤ proposer_at other i

-- p has r, and its successor is the reviewer `target`
pub record IsLink (l : Lists) (m : Places) (p r target : ℕ) : Type 0 where
  pub paired : held m.proposers p ≡ Some (place_of l.proposers p r)
  pub next : IsSuccessor l m p (place_of l.proposers p target)

-- the matching in which each proposer of the rotation has the reviewer of the next pair
-- (Gusfield and Irving 1989, section 2.5)
abbrev pub eliminated : Lists → Places → List (ℕ × ℕ) → Places
eliminated l m rotation = with_proposers l (places_after l m.proposers rotation)

-- a rotation moves p, from this reviewer to that one
abbrev pub DoesMove : List (ℕ × ℕ) → ℕ → Type 0
DoesMove rotation p = pair_of rotation p < length rotation

-- whether a rotation moves p
abbrev pub is_moved : List (ℕ × ℕ) → ℕ → Bool
is_moved rotation p = nat_lt (pair_of rotation p) (length rotation)

-- the reviewer from which a rotation moves p
abbrev pub reviewer_before : List (ℕ × ℕ) → ℕ → ℕ
reviewer_before rotation p = reviewer_at rotation (pair_of rotation p)

-- the reviewer to which a rotation moves p
abbrev pub reviewer_after : List (ℕ × ℕ) → ℕ → ℕ
reviewer_after rotation p = target_at rotation (pair_of rotation p)

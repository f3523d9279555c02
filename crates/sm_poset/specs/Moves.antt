-- Which rotations of a chain move a proposer, and where to.
use Rattle.std.specs.Prelude.{◌≡◌, ℕ, ◌<◌, ◌≤◌, ◌⊎◌, Bool, List, [], length, map, slice_index_or, Contains, Option, None, Some, Vec}
use Rattle.std.specs.declared.alloc.Global.{Global}
use Rattle.sm_market.specs.Lists.{Lists, row, place_of}
use Rattle.sm_theory.specs.Rotations.{target_at, pair_of}
use Rattle.sm_theory.specs.Chains.{rotation_at}
use Rattle.sm_theory.specs.ClosedSets.{IsMember}

-- rotation k moves p to the reviewer at place i of p's list (Gusfield and Irving 1989, section 2.5)
pub record IsMove (l : Lists) (rotations : List (List (ℕ × ℕ))) (p k i : ℕ) : Type 0 where
  pub moved : let rotation = rotation_at rotations k in pair_of rotation p < length rotation
  pub place : let rotation = rotation_at rotations k in i ≡ place_of l.proposers p (target_at rotation (pair_of rotation p))

-- the number of the rotation of a move, and the place to which it leads
abbrev pub rotation_of : List (ℕ × ℕ) → ℕ → ℕ
rotation_of moves a = (slice_index_or moves a (0, 0)).0

-- the place to which move a leads
abbrev pub place_to : List (ℕ × ℕ) → ℕ → ℕ
place_to moves a = (slice_index_or moves a (0, 0)).1

-- those of the first n rotations that move p, rising, each with the place to which it moves p
pub record AreMovesOf (l : Lists) (rotations : List (List (ℕ × ℕ))) (n p : ℕ) (moves : List (ℕ × ℕ)) : Type 0 where
  pub rising : (a b : ℕ) → a < b → b < length moves → rotation_of moves a < rotation_of moves b
  pub sound : (a : ℕ) → a < length moves → rotation_of moves a < n
  pub each : (a : ℕ) → a < length moves → IsMove l rotations p (rotation_of moves a) (place_to moves a)
  pub all : (k i : ℕ) → k < n → IsMove l rotations p k i → Contains moves (k, i)

-- what each of the vectors holds
abbrev pub moves_in : List (Vec (ℕ × ℕ) Global) → List (List (ℕ × ℕ))
moves_in vectors = map (λ v. v.items) vectors

-- the moves of p; none where there is no such proposer
abbrev pub moves_at : List (List (ℕ × ℕ)) → ℕ → List (ℕ × ℕ)
moves_at lists p = slice_index_or lists p []

-- the moves of each proposer by the first n rotations
pub record AreMoves (l : Lists) (rotations : List (List (ℕ × ℕ))) (n : ℕ) (lists : List (List (ℕ × ℕ))) : Type 0 where
  pub one_each : length lists ≡ length l.proposers
  pub of : (p : ℕ) → p < length l.proposers → AreMovesOf l rotations n p (moves_at lists p)

-- each move leads p to a place on its list, and further down than those before it
pub record GoDown (l : Lists) (p : ℕ) (moves : List (ℕ × ℕ)) : Type 0 where
  pub on_list : (a : ℕ) → a < length moves → place_to moves a < length (row l.proposers p)
  pub further : (a b : ℕ) → a < b → b < length moves → place_to moves a < place_to moves b

-- the worst of a first place and those to which members of a set move
pub record IsWorstOf (first : ℕ) (moves : List (ℕ × ℕ)) (set : List Bool) (worst : ℕ) : Type 0 where
  pub first_no_worse : first ≤ worst
  pub none_worse : (a : ℕ) → a < length moves → IsMember set (rotation_of moves a) → place_to moves a ≤ worst
  pub attained : (worst ≡ first) ⊎ ((a : ℕ) × (a < length moves) × IsMember set (rotation_of moves a) × (place_to moves a ≡ worst))

-- the same for a proposer that may have no first place, and then has none
abbrev pub IsWorstPlace : Option ℕ → List (ℕ × ℕ) → List Bool → Option ℕ → Type 0
IsWorstPlace None moves set place = place ≡ None
IsWorstPlace (Some first) moves set None = ⊥
IsWorstPlace (Some first) moves set (Some worst) = IsWorstOf first moves set worst

-- The walk of a lister over the closed sets of a board. It goes by positions: position i is that of proposer i of the order. A
-- vector has a number for each proposer.
use Rattle.std.specs.Prelude.{◌≡◌, ℕ, ◌+◌, ◌<◌, ◌≤◌, ◌⊎◌, Bool, List, None, Some, length, map, slice_index}
use Rattle.std.specs.List.{range_with_len}
use Rattle.sm_market.specs.Lists.{Lists}
use Rattle.sm_market.specs.Matching.{Places}
use Rattle.sm_market.specs.Stable.{IsStable}
use Rattle.sm_theory.specs.Vectors.{IsOrder, IsBefore, IsWithin, IsAllowedVector, AreInRange}
use Rattle.sm_theory.specs.Listings.{IsNextListed, IsNoneBehind}
use Rattle.sm_board.specs.Board.{Board, IsBoard, level, IsInside, Gates, Fits, IsLeast, IsFirstChange}
use Rattle.sm_board.specs.BoardOf.{board_of, IsGround, AreGates}

-- the levels in the matching of a set
abbrev pub vector : Board → List Bool → List ℕ
vector b C = map (level b C) (range_with_len 0 (length b.leaves))

-- at the first t positions a set has the levels of v, or no lower ones
abbrev pub AgreesUpTo : Board → (order v : List ℕ) → ℕ → List Bool → Type 0
AgreesUpTo b order v t C = (j : ℕ) → j < t
    → level b C (slice_index order j) ≡ slice_index v (slice_index order j)

-- at the first t positions a set has no lower levels than v
abbrev pub Reaches : Board → (order v : List ℕ) → ℕ → List Bool → Type 0
Reaches b order v t C = (j : ℕ) → j < t
    → slice_index v (slice_index order j) ≤ level b C (slice_index order j)

-- the least set that fits and is no lower than v at the first t positions; there it agrees with v
pub record IsMark (b : Board) (g : Gates) (order v : List ℕ) (t : ℕ) (C : List Bool) : Type 0 where
  pub fits : Fits b g C
  pub agrees : AgreesUpTo b order v t C
  pub least : (D : List Bool) → Fits b g D → Reaches b order v t D → IsInside C D

-- a set that is above v first at position i
pub record IsUp (b : Board) (g : Gates) (order v : List ℕ) (i : ℕ) (D : List Bool) : Type 0 where
  pub fits : Fits b g D
  pub agrees : AgreesUpTo b order v i D
  pub above : slice_index v (slice_index order i) < level b D (slice_index order i)

-- and the least one of these
pub record IsNextUp (b : Board) (g : Gates) (order v : List ℕ) (i : ℕ) (C : List Bool) : Type 0 where
  pub up : IsUp b g order v i C
  pub least : (D : List Bool) → Fits b g D → Reaches b order v i D
      → slice_index v (slice_index order i) < level b D (slice_index order i) → IsInside C D

-- no set is above v first at position d or behind it
abbrev pub NoneFrom : Board → Gates → (order v : List ℕ) → ℕ → Type 0
NoneFrom b g order v d = (i : ℕ) (D : List Bool) → d ≤ i → i < length order → ¬ IsUp b g order v i D

-- what raising p to a level finds: the least set that fits, has all of C and gives p this level or a higher one, and no level
-- before position `bar` is another than in C
pub record IsRaised (b : Board) (g : Gates) (order : List ℕ) (C : List Bool)
    (p wanted bar : ℕ) (new : List Bool) : Type 0 where
  pub fits : Fits b g new
  pub more : IsInside C new
  pub reaches : wanted ≤ level b new p
  pub same : (j : ℕ) → j < bar → level b new (slice_index order j) ≡ level b C (slice_index order j)
  pub least : (D : List Bool) → Fits b g D → IsInside C D → wanted ≤ level b D p → IsInside new D

-- or there is none: each such set has another level before position `bar`
abbrev pub IsNotRaised : Board → Gates → (order : List ℕ) → List Bool → (p wanted bar : ℕ) → Type 0
IsNotRaised b g order C p wanted bar = (D : List Bool) → Fits b g D → IsInside C D
    → wanted ≤ level b D p
    → ((j : ℕ) → j < bar → level b D (slice_index order j) ≡ level b C (slice_index order j)) → ⊥

-- a walk at v: its marks for the first d positions, and none above v from there on
pub record IsVectorWalk (b : Board) (g : Gates) (order v : List ℕ) (d : ℕ) (mark : ℕ → List Bool) : Type 0 where
  pub marks : (t : ℕ) → t ≤ d → IsMark b g order v t (mark t)
  pub none : NoneFrom b g order v d

-- of the sets that fit none has a vector before that of C
abbrev pub HasFirstVector : Board → Gates → (order : List ℕ) → List Bool → Type 0
HasFirstVector b g order C = (D : List Bool) → Fits b g D → (vector b C ≡ vector b D)
    ⊎ IsBefore order (vector b C) (vector b D)

-- of those above v none has a vector before that of C, which is above v
pub record IsFirstAbove (b : Board) (g : Gates) (order v : List ℕ) (C : List Bool) : Type 0 where
  pub above : IsBefore order v (vector b C)
  pub first : (D : List Bool) → Fits b g D → IsBefore order v (vector b D) → (vector b C ≡ vector b D)
      ⊎ IsBefore order (vector b C) (vector b D)

-- where a set can be raised from the mark behind position i it is the next one up there
abbrev pub UpWhereRaised : Type 0
UpWhereRaised = (b : Board) (g : Gates) (order v : List ℕ) (i : ℕ) (C new : List Bool)
    → IsMark b g order v (i + 1) C
    → IsRaised b g order C (slice_index order i) (slice_index v (slice_index order i) + 1) i new
    → IsNextUp b g order v i new

-- and where it can't none is above v there
abbrev pub NoneWhereNotRaised : Type 0
NoneWhereNotRaised = (b : Board) (g : Gates) (order v : List ℕ) (i : ℕ) (C : List Bool)
    → IsMark b g order v (i + 1) C
    → IsNotRaised b g order C (slice_index order i) (slice_index v (slice_index order i) + 1) i
    → NoneFrom b g order v (i + 1) → NoneFrom b g order v i

-- nor where no rotation changes the level at position i and none before it
abbrev pub NoneWithoutTurn : Type 0
NoneWithoutTurn = (b : Board) (g : Gates) (order v : List ℕ) (i : ℕ) (C : List Bool) → IsBoard b
    → IsOrder (length b.leaves) order → i < length order → IsMark b g order v (i + 1) C
    → ((x : ℕ) → ¬ IsFirstChange b order x i) → NoneFrom b g order v (i + 1) → NoneFrom b g order v i

-- the next one up, with none behind, is the first above v
abbrev pub NextUpIsFirst : Type 0
NextUpIsFirst = (b : Board) (g : Gates) (order v : List ℕ) (i : ℕ) (new : List Bool) → IsBoard b
    → IsOrder (length b.leaves) order → i < length order
    → IsNextUp b g order v i new → NoneFrom b g order v (i + 1) → IsFirstAbove b g order v new

-- and a walk goes on at it: the marks up to position i stay, and all others are the new set
abbrev pub WalkGoesOn : Type 0
WalkGoesOn = (b : Board) (g : Gates) (order v : List ℕ) (i : ℕ) (mark then : ℕ
    → List Bool) (new : List Bool) → IsOrder (length b.leaves) order → i < length order
    → ((t : ℕ) → t ≤ i → IsMark b g order v t (mark t)) → IsNextUp b g order v i new
    → ((t : ℕ) → t ≤ i → then t ≡ mark t) → ((t : ℕ) → i < t → then t ≡ new)
    → IsVectorWalk b g order (vector b new) (length order) then

-- a walk begins at the least set that fits
abbrev pub WalkBegins : Type 0
WalkBegins = (b : Board) (g : Gates) (order : List ℕ) (C : List Bool) → IsBoard b
    → IsOrder (length b.leaves) order → IsLeast (Fits b g) C
    → IsVectorWalk b g order (vector b C) (length order) (λ _. C) × HasFirstVector b g order C

-- following a vector that is given: raised to its level at position i, the mark behind this position is found, or the next one
-- up, behind which none is above v
abbrev pub FollowOn : Type 0
FollowOn = (b : Board) (g : Gates) (order v : List ℕ) (i : ℕ) (C new : List Bool) → IsBoard b
    → IsOrder (length b.leaves) order → i < length order → IsMark b g order v i C
    → IsRaised b g order C (slice_index order i) (slice_index v (slice_index order i)) i new
    → (level b new (slice_index order i) ≡ slice_index v (slice_index order i)
    → IsMark b g order v (i + 1) new)
    × (slice_index v (slice_index order i) < level b new (slice_index order i)
    → IsNextUp b g order v i new × NoneFrom b g order v (i + 1))

-- and where it can't be raised none is above v from there on
abbrev pub FollowEnds : Type 0
FollowEnds = (b : Board) (g : Gates) (order v : List ℕ) (i : ℕ) (C : List Bool) → IsMark b g order v i C
    → IsNotRaised b g order C (slice_index order i) (slice_index v (slice_index order i)) i
    → NoneFrom b g order v i

-- bounds that exclude nothing
abbrev pub ExcludeNothing : Lists → List (List ℕ) → (low high : List ℕ) → Type 0
ExcludeNothing l levels low high = (m : Places) → IsStable l m → IsWithin l levels low high m

-- what the walk finds is the next level vector of an allowed stable matching
abbrev pub WalkIsNext : Type 0
WalkIsNext = (l : Lists) (levels : List (List ℕ)) (first : Places) (rotations : List (List (ℕ
    × ℕ))) (needs : List (List ℕ)) (moves : List (List (ℕ × ℕ)))
    (low high : List ℕ) (forced forbidden : List (ℕ × ℕ)) (g : Gates) (order : List ℕ)
    → IsGround l levels first rotations needs moves → AreInRange (length l.proposers) forced
    → let b = board_of l levels first rotations needs moves in
    AreGates b low high forced forbidden g → ExcludeNothing l levels low high
    → IsOrder (length l.proposers) order
    → ((C : List Bool) → Fits b g C → HasFirstVector b g order C
    → IsNextListed (IsBefore order) (IsAllowedVector l levels forced forbidden) None (vector b C))
    × ((v : List ℕ) (C : List Bool) → Fits b g C → IsFirstAbove b g order v C
    → IsNextListed (IsBefore order) (IsAllowedVector l levels forced forbidden) (Some v) (vector b C))
    × (((C : List Bool) → ¬ Fits b g C)
    → IsNoneBehind (IsBefore order) (IsAllowedVector l levels forced forbidden) None)
    × ((v : List ℕ) → NoneFrom b g order v 0
    → IsNoneBehind (IsBefore order) (IsAllowedVector l levels forced forbidden) (Some v))

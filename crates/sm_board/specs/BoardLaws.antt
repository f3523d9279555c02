-- What holds of the sets of a board. Each is the contract of a function of `laws`.
use Rattle.std.specs.Prelude.{◌≡◌, ◌≢◌, ℕ, suc, ◌<◌, ◌≤◌, ◌↔◌, Bool, true, List, length, slice_index, Contains, set}
use Rattle.sm_market.specs.Lists.{row}
use Rattle.sm_theory.specs.ClosedSets.{IsMember}
use Rattle.sm_board.specs.Board.{Board, IsBoard, leave, stay, level, IsClosedIn, IsInside, Gates, IsOpen, Changes}

-- a closed set has the rotations that end the stays before p's, and no other that moves p
abbrev pub MembersAreFirst : Type 0
MembersAreFirst = (b : Board) (C : List Bool) (p a : ℕ) → IsBoard b → IsClosedIn b C
    → a < length (row b.leaves p) → IsMember C (leave b p a) ↔ (a < stay b C p)

-- with more members no stay is earlier and no level lower
abbrev pub StaysGrow : Type 0
StaysGrow = (b : Board) (C D : List Bool) (p : ℕ) → IsBoard b → IsInside C D → p < length b.leaves
    → (stay b C p ≤ stay b D p) × (level b C p ≤ level b D p)

-- where p has another stay in a greater closed set, this one has the rotation that ends p's stay
abbrev pub LeaveIsIn : Type 0
LeaveIsIn = (b : Board) (C D : List Bool) (p : ℕ) → IsBoard b → IsInside C D → IsClosedIn b D
    → stay b C p ≢ stay b D p → IsMember D (leave b p (stay b C p))

-- past the last open stay there is none
abbrev pub PastIsShut : Type 0
PastIsShut = (b : Board) (g : Gates) (C D : List Bool) (p : ℕ) → IsBoard b → IsInside C D
    → slice_index g.until p ≤ stay b C p → ¬ IsOpen g p (stay b D p)

-- where no new member changes p's level it stays
abbrev pub LevelStays : Type 0
LevelStays = (b : Board) (C D : List Bool) (p : ℕ) → IsBoard b → IsInside C D → IsClosedIn b C
    → IsClosedIn b D → p < length b.leaves
    → ((x : ℕ) → IsMember D x → ¬ IsMember C x → ¬ Changes b x p) → level b C p ≡ level b D p

-- a new member that changes p's level makes it rise
abbrev pub LevelRises : Type 0
LevelRises = (b : Board) (C D : List Bool) (p x : ℕ) → IsBoard b → IsInside C D → IsClosedIn b C
    → IsClosedIn b D → p < length b.leaves
    → IsMember D x → ¬ IsMember C x → Changes b x p → level b C p < level b D p

-- a new member ends the stays of those that it moves, and of no others
abbrev pub EnterEndsStays : Type 0
EnterEndsStays = (b : Board) (C : List Bool) (p x : ℕ) → IsBoard b → x < length C → ¬ IsMember C x
    → (Contains (row b.movers x) p → stay b (set C x true) p ≡ suc (stay b C p))
    × (¬ Contains (row b.movers x) p → stay b (set C x true) p ≡ stay b C p)

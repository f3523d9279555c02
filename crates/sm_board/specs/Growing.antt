-- How a set grows: what is held is a list of rotations in the order of their entering, and what enters is in each set in
-- question.
use Rattle.std.specs.Prelude.{◌≡◌, ◌≢◌, ℕ, ◌+◌, ◌<◌, ◌≤◌, ◌++◌, ◌∷◌, [], Bool, true, false, List, length, slice_index, Contains, set}
use Rattle.sm_market.specs.Lists.{row}
use Rattle.sm_theory.specs.ClosedSets.{IsMember}
use Rattle.sm_theory.specs.Vectors.{IsOrder}
use Rattle.sm_board.specs.Board.{Board, IsBoard, leave, stay, level, IsClosedIn, IsInside, Gates, IsOpen, Fits, IsLeast, Changes}
use Rattle.sm_board.specs.Walks.{IsRaised, IsNotRaised}

-- a set and the list of its members in the order of their entering
pub record IsLogOf (b : Board) (log : List ℕ) (C : List Bool) : Type 0 where
  pub one_each : length C ≡ length b.needs
  pub in_range : (a : ℕ) → a < length log → slice_index log a < length b.needs
  pub once : (a c : ℕ) → a < c → c < length log → slice_index log a ≢ slice_index log c
  pub each : (a : ℕ) → a < length log → IsMember C (slice_index log a)
  pub all : (x : ℕ) → IsMember C x → Contains log x

-- the predecessors of the first c rotations of a list are members
abbrev pub AreNeedsIn : Board → List Bool → List ℕ → ℕ → Type 0
AreNeedsIn b C log c = (a i : ℕ) → a < c → Contains (row b.needs (slice_index log a)) i → IsMember C i

-- for each rotation held the stay whose end was asked for when it entered: each closed set with what ends it has the rotation,
-- and what ends the stays before it was held already
pub record AreAskers (b : Board) (log who at : List ℕ) : Type 0 where
  pub below : (a : ℕ) → a < length log → (D : List Bool) → IsClosedIn b D
      → IsMember D (leave b (slice_index who a) (slice_index at a)) → IsMember D (slice_index log a)
  pub come : (a j : ℕ) → a < length log → j < slice_index at a → (c : ℕ) × (c < a)
      × (slice_index log c ≡ leave b (slice_index who a) j)
  pub within : (a : ℕ) → a < length log → slice_index at a < length (row b.leaves (slice_index who a))
  pub someone : (a : ℕ) → a < length log → slice_index who a < length b.leaves

-- one more enters, and the last one leaves
abbrev pub LogGrows : Type 0
LogGrows = (b : Board) (log : List ℕ) (C : List Bool) (x : ℕ) → IsLogOf b log C → x < length b.needs
    → ¬ IsMember C x → IsLogOf b (log ++ x ∷ []) (set C x true)

-- without the last that entered the log is that of the set without it
abbrev pub LogFalls : Type 0
LogFalls = (b : Board) (log : List ℕ) (C : List Bool) (x : ℕ) → IsLogOf b (log ++ x ∷ []) C
    → IsLogOf b log (set C x false)

-- a log is no longer than there are rotations, and so has room for one that isn't in it
abbrev pub LogFits : Type 0
LogFits = (b : Board) (log : List ℕ) (C : List Bool) → IsLogOf b log C
    → (length log ≤ length b.needs)
    × ((x : ℕ) → x < length b.needs → ¬ IsMember C x → length log < length b.needs)

-- a set is closed once the predecessors of all that it holds are members
abbrev pub ClosedWhenDone : Type 0
ClosedWhenDone = (b : Board) (log : List ℕ) (C : List Bool) → IsLogOf b log C
    → AreNeedsIn b C log (length log) → IsClosedIn b C

-- what a member needs may enter: it is in each closed set that has all held so far
abbrev pub NeedMayEnter : Type 0
NeedMayEnter = (b : Board) (C D : List Bool) (j y : ℕ) → IsInside C D → IsClosedIn b D → IsMember C j
    → Contains (row b.needs j) y → y < length C → IsInside (set C y true) D

-- so may what ends a stay that isn't open, or one whose level is too low
abbrev pub ShutLeaveIsIn : Type 0
ShutLeaveIsIn = (b : Board) (g : Gates) (C D : List Bool) (p : ℕ) → IsBoard b → IsInside C D
    → Fits b g D → p < length b.leaves → ¬ IsOpen g p (stay b C p) → IsMember D (leave b p (stay b C p))

-- so may what ends a stay whose level is too low
abbrev pub LowLeaveIsIn : Type 0
LowLeaveIsIn = (b : Board) (C D : List Bool) (p wanted : ℕ) → IsBoard b → IsInside C D → IsClosedIn b D
    → level b C p < wanted → wanted ≤ level b D p → IsMember D (leave b p (stay b C p))

-- a proposer that no new member moves keeps its stay
abbrev pub IdleStays : Type 0
IdleStays = (b : Board) (C D : List Bool) (p : ℕ) → IsBoard b → IsInside C D
    → ((x : ℕ) → IsMember D x → ¬ IsMember C x → ¬ Contains (row b.movers x) p)
    → stay b D p ≡ stay b C p

-- where no new member changes a level before position `bar` these levels stay; where one does, some level there rises
abbrev pub FreeKeepsLevels : Type 0
FreeKeepsLevels = (b : Board) (order : List ℕ) (C D : List Bool) (bar : ℕ) → IsBoard b
    → IsOrder (length b.leaves) order → bar ≤ length order → IsInside C D → IsClosedIn b C
    → IsClosedIn b D
    → ((x j : ℕ) → IsMember D x → ¬ IsMember C x → j < bar → ¬ Changes b x (slice_index order j))
    → (j : ℕ) → j < bar → level b D (slice_index order j) ≡ level b C (slice_index order j)

-- where a new member changes a level before position `bar`, some level there is another
abbrev pub BarredChangesLevels : Type 0
BarredChangesLevels = (b : Board) (order : List ℕ) (C D : List Bool) (bar x j : ℕ) → IsBoard b
    → IsOrder (length b.leaves) order → bar ≤ length order → IsInside C D → IsClosedIn b C
    → IsClosedIn b D
    → IsMember D x → ¬ IsMember C x → j < bar → Changes b x (slice_index order j)
    → ¬ ((j : ℕ) → j < bar → level b D (slice_index order j) ≡ level b C (slice_index order j))

-- where all that were asked for stays that aren't open now are held, they are in each set that fits
abbrev pub AskedIsIn : Type 0
AskedIsIn = (b : Board) (g : Gates) (log who at : List ℕ) (D : List Bool) → IsBoard b
    → AreAskers b log who at
    → ((a : ℕ) → a < length log → ¬ IsOpen g (slice_index who a) (slice_index at a)) → Fits b g D
    → (a : ℕ) → a < length log → IsMember D (slice_index log a)

-- what a raise looks for, and what it has brought in so far: only what is in all of these
pub record IsSought (b : Board) (g : Gates) (C : List Bool) (p wanted : ℕ) (D : List Bool) : Type 0 where
  pub fits : Fits b g D
  pub more : IsInside C D
  pub reaches : wanted ≤ level b D p

-- what has been brought in is in each set that is looked for
abbrev pub IsForced : Board → Gates → List Bool → (p wanted : ℕ) → List Bool → Type 0
IsForced b g C p wanted now = (D : List Bool) → IsSought b g C p wanted D → IsInside now D

-- a raise has found what it looked for where that fits and reaches the level, and nothing new changes a level before `bar`
abbrev pub RaiseFinds : Type 0
RaiseFinds = (b : Board) (g : Gates) (order : List ℕ) (C now : List Bool) (p wanted bar : ℕ)
    → IsBoard b → IsOrder (length b.leaves) order → bar ≤ length order → IsClosedIn b C
    → IsForced b g C p wanted now → IsSought b g C p wanted now
    → ((x j : ℕ) → IsMember now x → ¬ IsMember C x → j < bar → ¬ Changes b x (slice_index order j))
    → IsRaised b g order C p wanted bar now

-- and it finds nothing where somebody is past its last open stay,
abbrev pub RaiseIsPast : Type 0
RaiseIsPast = (b : Board) (g : Gates) (order : List ℕ) (C now : List Bool) (p wanted bar q : ℕ)
    → IsBoard b
    → IsForced b g C p wanted now → q < length b.leaves → slice_index g.until q ≤ stay b now q
    → IsNotRaised b g order C p wanted bar

-- where p stands too low at its last open stay,
abbrev pub RaiseIsLast : Type 0
RaiseIsLast = (b : Board) (g : Gates) (order : List ℕ) (C now : List Bool) (p wanted bar : ℕ)
    → IsBoard b
    → IsForced b g C p wanted now → p < length b.leaves → level b now p < wanted
    → slice_index g.until p ≤ stay b now p + 1 → IsNotRaised b g order C p wanted bar

-- or where something new that is in all that is looked for changes a level before `bar`
abbrev pub RaiseIsBarred : Type 0
RaiseIsBarred = (b : Board) (g : Gates) (order : List ℕ) (C : List Bool) (p wanted bar x j : ℕ)
    → IsBoard b → IsOrder (length b.leaves) order → bar ≤ length order → IsClosedIn b C
    → ((D : List Bool) → IsSought b g C p wanted D → IsMember D x) → ¬ IsMember C x → j < bar
    → Changes b x (slice_index order j) → IsNotRaised b g order C p wanted bar

-- a closed set that is in each set that fits, and in which all have open stays, is the least
abbrev pub LeastIsFound : Type 0
LeastIsFound = (b : Board) (g : Gates) (C : List Bool) → IsClosedIn b C
    → ((p : ℕ) → p < length b.leaves → IsOpen g p (stay b C p))
    → ((D : List Bool) → Fits b g D → IsInside C D) → IsLeast (Fits b g) C

-- where one asker's rotations end and the next one's begin, all that was held before is closed
abbrev pub AreWhole : Board → (log who at : List ℕ) → Type 0
AreWhole b log who at = (c : ℕ) → c + 1 < length log
    → ¬ ((slice_index who c ≡ slice_index who (c + 1)) × (slice_index at c ≡ slice_index at (c + 1)))
    → (a i : ℕ) → a ≤ c → Contains (row b.needs (slice_index log a)) i → (k : ℕ) × (k ≤ c)
    × (slice_index log k ≡ i)

-- so what was asked for before the first asker whose stay is open now is closed
abbrev pub AskedIsClosed : Type 0
AskedIsClosed = (b : Board) (g : Gates) (log who at : List ℕ) (c : ℕ) → AreWhole b log who at
    → c < length log
    → ((a : ℕ) → a < c → ¬ IsOpen g (slice_index who a) (slice_index at a))
    → IsOpen g (slice_index who c) (slice_index at c)
    → (a i : ℕ) → a < c → Contains (row b.needs (slice_index log a)) i → (k : ℕ) × (k < c)
    × (slice_index log k ≡ i)

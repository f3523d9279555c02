-- What a `Lister` tells: the poset and levels for which it was made, its conditions and its order, and the vector to which it
-- came last or behind which it goes on.
use Rattle.std.specs.Prelude.{◌≡◌, ◌⊎◌, ℕ, ◌+◌, Bool, true, false, Result, Ok, Err, Vec, List, Option, None, Some}
use Rattle.std.specs.declared.alloc.AllocError.{AllocError}
use Rattle.std.specs.declared.alloc.Global.{Global}
use Rattle.sm_lists.specs.Orders.{AreAlikeBelow}
use Rattle.sm_theory.specs.ClosedSets.{matching_of}
use Rattle.sm_theory.specs.Vectors.{IsBefore, IsAllowedVector, level_vector_of}
use Rattle.sm_theory.specs.Listings.{IsNextListed, IsNoneBehind}
use Rattle.sm_poset.specs.Posets.{RotationPoset}
use Rattle.sm_least.specs.Searches.{Search}

-- `here` says that the last step found a vector, and `set` is then the closed set of its matching; `changed_from` is a proposer
-- below which the last vector that was found has the levels of the one before it
pub record Lister : Type 0 where
  pub poset : RotationPoset
  pub levels : List (List ℕ)
  pub forced : List (ℕ × ℕ)
  pub forbidden : List (ℕ × ℕ)
  pub order : List ℕ
  pub cursor : Option (List ℕ)
  pub here : Bool
  pub changed_from : ℕ
  pub set : List Bool

-- the vectors in question are those of the stable matchings that the conditions allow
abbrev pub IsListed : Lister → List ℕ → Type 0
IsListed s v = IsAllowedVector s.poset.lists s.levels s.forced s.forbidden v

-- the first one behind the cursor, or there is none
abbrev pub IsNextOf : Lister → List ℕ → Type 0
IsNextOf s v = IsNextListed (IsBefore s.order) (IsListed s) s.cursor v

-- no vector in question is behind the cursor
abbrev pub IsAtEnd : Lister → Type 0
IsAtEnd s = IsNoneBehind (IsBefore s.order) (IsListed s) s.cursor

-- below a proposer a vector has the levels of the cursor; the proposer is 0 where there is no cursor
abbrev pub IsChangedFrom : ℕ → Option (List ℕ) → List ℕ → Type 0
IsChangedFrom from None v = from ≡ 0
IsChangedFrom from (Some u) v = AreAlikeBelow from u v

-- the level vector of the matching of a set
abbrev pub vector_of : Lister → List Bool → List ℕ
vector_of s set = level_vector_of s.poset.lists s.levels (matching_of s.poset.lists s.poset.first.places s.poset.rotations set)

-- the same poset, levels, conditions and order
pub record IsSameLister (s t : Lister) : Type 0 where
  pub poset : t.poset ≡ s.poset
  pub levels : t.levels ≡ s.levels
  pub forced : t.forced ≡ s.forced
  pub forbidden : t.forbidden ≡ s.forbidden
  pub order : t.order ≡ s.order

-- a lister as it is started
pub record IsStarted (least : Search) (forced forbidden : List (ℕ × ℕ)) (order : List ℕ) (after : Option (List ℕ)) (s : Lister) : Type 0 where
  pub poset : s.poset ≡ least.poset
  pub levels : s.levels ≡ least.levels
  pub forced_is : s.forced ≡ forced
  pub forbidden_is : s.forbidden ≡ forbidden
  pub order_is : s.order ≡ order
  pub cursor : s.cursor ≡ after

-- what an iterator over a lister has left: at most so many items, and a vector that waits, since there was no memory for it
pub record Listing : Type 0 where
  pub lister : Lister
  pub left : ℕ
  pub waits : Bool

-- the vector that comes next: the one that waits, or the first one behind the cursor
abbrev pub ComesFrom : Bool → Lister → List ℕ → Type 0
ComesFrom true s v = s.cursor ≡ Some v
ComesFrom false s v = IsNextOf s v

-- the vector that comes next in a listing
abbrev pub ComesNext : Listing → List ℕ → Type 0
ComesNext s v = ComesFrom s.waits s.lister v

-- no vector comes any more
abbrev pub NoneComes : Listing → Type 0
NoneComes s = (s.waits ≡ false) × IsAtEnd s.lister

-- what an item says of the listing before and behind it: the next vector, which is the last one behind it; or a refusal, behind
-- which the same vector comes next; or the end, behind which no item comes
abbrev pub GivesItem : Listing → Option (Result (Vec ℕ Global) AllocError) → Listing → Type 0
GivesItem s None t = ((s.left ≡ 0) ⊎ NoneComes s) × (t.left ≡ 0)
GivesItem s (Some (Ok v)) t = (s.left ≡ t.left + 1) × ComesNext s v.items × (t.waits ≡ false) × (t.lister.cursor ≡ Some v.items) × IsSameLister s.lister t.lister
GivesItem s (Some (Err e)) t = (s.left ≡ t.left + 1) × ((v : List ℕ) × ComesNext t v × ComesNext s v) × (t.waits ≡ true) × IsSameLister s.lister t.lister

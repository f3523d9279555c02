-- Why two given matchings have no meet and no join.
use Rattle.std.specs.Prelude.{◌≡◌, ℕ, ◌+◌, List, length, Option}
use Rattle.sm_agents.specs.Written.{Written}
use Rattle.sm_instance.specs.Stable.{IsStable, IsFirstBlocking}
use Rattle.sm_instance.specs.declared.inputs.Input.TheVariants.{Two}
use Rattle.sm_answer_given.specs.GivenText.{AreGiven, IsBadGivenAt}
use Rattle.sm_holding.specs.Held.{places_in, IsFirstBreach, CanHold}
use Rattle.sm_lists.specs.Pairs.{pair_at}
use Rattle.sm_answer_given.specs.declared.faults.Which.{Which}
use Rattle.sm_answer_given.specs.declared.faults.Which.TheVariants.{Left, Right}
use Rattle.sm_answer_given.specs.declared.faults.Flaw.TheVariants.{Breach, Blocks}
use Rattle.sm_answer_given.specs.declared.faults.Unstable.{Unstable}
use Rattle.sm_answer_given.specs.declared.faults.GivenFault.{GivenFault}
use Rattle.sm_answer_given.specs.declared.faults.GivenFault.TheVariants.{BadAnswer, NotStable, OutOfMemory}

-- the first pair of a group, of which the first has this line, that can't be held
pub record IsBreachIn (w : Written) (pairs : List (ℕ × ℕ)) (which : Which) (line : ℕ) (u : Unstable) : Type 0 where
  pub at : ℕ
  pub first : IsFirstBreach w pairs at
  pub which_one : u.which ≡ which
  pub flaw : u.flaw ≡ Breach
  pub line_at : u.line ≡ line + at
  pub proposer : u.proposer ≡ (pair_at pairs at).0
  pub reviewer : u.reviewer ≡ (pair_at pairs at).1

-- the first pair that blocks a matching, by proposer and then along its list
pub record IsBlockedBy (w : Written) (places : List (Option ℕ)) (which : Which) (line : ℕ) (u : Unstable) : Type 0 where
  pub first : IsFirstBlocking w places u.proposer u.reviewer
  pub which_one : u.which ≡ which
  pub flaw : u.flaw ≡ Blocks
  pub line_at : u.line ≡ line

-- What is wrong with two matchings, whose first line has this number. A pair that can't be held comes first, at its line; then,
-- at the line of `end`, a pair that blocks the left one, and then one that blocks the right one.
pub data IsUnstable (w : Written) (left right : List (ℕ × ℕ)) (line : ℕ) (u : Unstable) : Type 0 where
  left_breach : IsBreachIn w left Left line u → IsUnstable w left right line u
  right_breach : CanHold w left → IsBreachIn w right Right (line + length left) u → IsUnstable w left right line u
  left_blocked : CanHold w left → CanHold w right → IsBlockedBy w (places_in w left) Left (line + length left + length right) u → IsUnstable w left right line u
  right_blocked : CanHold w left → CanHold w right → IsStable w (places_in w left) → IsBlockedBy w (places_in w right) Right (line + length left + length right) u
      → IsUnstable w left right line u

-- why pairs make no matching; want of memory says nothing
abbrev pub IsHoldFault : Written → List (ℕ × ℕ) → Which → ℕ → GivenFault → Type 0
IsHoldFault w pairs which line (BadAnswer at) = ⊥
IsHoldFault w pairs which line (NotStable u) = IsBreachIn w pairs which line u
IsHoldFault w pairs which line OutOfMemory = Unit {0}

-- texts, of which the first stands on the line of this number, are those of two matchings, and one isn't stable
pub record AreUnstable (w : Written) (texts : List (List ℕ)) (line : ℕ) (u : Unstable) : Type 0 where
  pub left : List (ℕ × ℕ)
  pub right : List (ℕ × ℕ)
  pub given : AreGiven (Two w) texts left right
  pub unstable : IsUnstable w left right line u

-- why there are no two stable matchings; want of memory says nothing
abbrev pub IsGivenFault : Written → List (List ℕ) → ℕ → GivenFault → Type 0
IsGivenFault w texts line (BadAnswer at) = IsBadGivenAt (Two w) texts line at
IsGivenFault w texts line (NotStable u) = AreUnstable w texts line u
IsGivenFault w texts line OutOfMemory = Unit {0}

-- the same of one matching alone; want of memory says nothing
abbrev pub IsBlocking : Written → List (Option ℕ) → Which → ℕ → GivenFault → Type 0
IsBlocking w places which line (BadAnswer at) = ⊥
IsBlocking w places which line (NotStable u) = IsBlockedBy w places which line u
IsBlocking w places which line OutOfMemory = Unit {0}

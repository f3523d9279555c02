-- What a `PairingFault` says of the places that the proposers are to hold.
use Rattle.std.specs.Prelude.{◌≡◌, ◌≢◌, ℕ, ◌<◌, ◌≤◌, List, Option, Some, length}
use Rattle.sm_market.specs.Lists.{Lists, row, entry}
use Rattle.sm_market.specs.Matching.{held}
use Rattle.sm_market.specs.declared.faults.PairingFault.{PairingFault}
use Rattle.sm_market.specs.declared.faults.PairingFault.TheVariants.{WrongLength, OutOfRange, Taken, OutOfMemory}

-- p is to hold a place past its list
pub record IsPastList (l : Lists) (places : List (Option ℕ)) (p : ℕ) : Type 0 where
  pub at : ℕ
  pub holds : held places p ≡ Some at
  pub past : length (row l.proposers p) ≤ at

-- p is to have a reviewer whom an earlier proposer is to have
pub record IsTaken (l : Lists) (places : List (Option ℕ)) (p : ℕ) : Type 0 where
  pub at : ℕ
  pub holds : held places p ≡ Some at
  pub earlier : ℕ
  pub before : earlier < p
  pub there : ℕ
  pub earlier_holds : held places earlier ≡ Some there
  pub same : entry l.proposers earlier there ≡ entry l.proposers p at

-- places that the proposers can hold together: one for each, on its list, and no two with one reviewer
pub record AreHeld (l : Lists) (places : List (Option ℕ)) : Type 0 where
  pub one_each : length places ≡ length l.proposers
  pub on_lists : (p : ℕ) → ¬ IsPastList l places p
  pub untaken : (p : ℕ) → ¬ IsTaken l places p

-- p is the first proposer with a place past its list
pub record IsFirstPastList (l : Lists) (places : List (Option ℕ)) (p : ℕ) : Type 0 where
  pub one_each : length places ≡ length l.proposers
  pub past : IsPastList l places p
  pub earlier_proposers : (q : ℕ) → q < p → ¬ IsPastList l places q

-- all places are on their lists, and p is the first proposer whose reviewer is taken
pub record IsFirstTaken (l : Lists) (places : List (Option ℕ)) (p : ℕ) : Type 0 where
  pub one_each : length places ≡ length l.proposers
  pub on_lists : (q : ℕ) → ¬ IsPastList l places q
  pub taken : IsTaken l places p
  pub earlier_proposers : (q : ℕ) → q < p → ¬ IsTaken l places q

-- what each fault says; want of memory says nothing of the places
abbrev pub IsPairingFault : Lists → List (Option ℕ) → PairingFault → Type 0
IsPairingFault l places WrongLength = length places ≢ length l.proposers
IsPairingFault l places (OutOfRange p) = IsFirstPastList l places p
IsPairingFault l places (Taken p) = IsFirstTaken l places p
IsPairingFault l places OutOfMemory = Unit {0}

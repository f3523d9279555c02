-- The verdict on an answer: the first line at which a clause fails, and at it the first clause of the table.
use Rattle.std.specs.Prelude.{◌≡◌, ℕ, ◌+◌, ◌<◌, List, take, Option, Some, None, IfSome}
use Rattle.std.specs.List.{slice_get}
use Rattle.sm_report.specs.Lines.{LineData}
use Rattle.sm_check_clauses.specs.declared.verdicts.Reason.{Reason}
use Rattle.sm_check_clauses.specs.declared.verdicts.Reason.TheVariants as reason
use Rattle.sm_check_clauses.specs.declared.verdicts.Verdict.{Verdict}
use Rattle.sm_check_clauses.specs.declared.verdicts.Verdict.TheVariants as verdict

-- the number of a reason in the table
abbrev pub number_of_reason : Reason → ℕ
number_of_reason reason.NotAMatching = 1
number_of_reason reason.Blocked = 2
number_of_reason reason.NotBest = 3
number_of_reason reason.WrongList = 4
number_of_reason reason.NotExposed = 5
number_of_reason reason.RotationMissing = 6
number_of_reason reason.WrongNeeds = 7
number_of_reason reason.WrongGain = 8
number_of_reason reason.NoEdge = 9
number_of_reason reason.OverRoom = 10
number_of_reason reason.NotConserved = 11
number_of_reason reason.NotClosed = 12
number_of_reason reason.WrongValue = 13
number_of_reason reason.WrongCut = 14
number_of_reason reason.CutDiffers = 15
number_of_reason reason.WrongTotal = 16
number_of_reason reason.WrongPair = 17
number_of_reason reason.NotLeast = 18
number_of_reason reason.NotRising = 19
number_of_reason reason.NotAllowed = 20
number_of_reason reason.OverLimit = 21
number_of_reason reason.WrongTail = 22
number_of_reason reason.WrongRegret = 23
number_of_reason reason.NotPartition = 24
number_of_reason reason.NoOddParty = 25

-- The clauses of an answer say, for a line with those above it, what has to hold there by each reason; a clause that isn't
-- tried at a line holds there. So what stands below a line tells nothing about it.

-- the clause of a reason at line k, counted from 0
abbrev pub AtLine : (List LineData → LineData → Reason → Type 0) → List LineData → ℕ → Reason → Type 0
AtLine Clauses lines k why = IfSome (slice_get lines k) (λ line. Clauses (take k lines) line why)

-- the clause of a reason is the first that fails: all clauses hold at the lines above line k, and at line k those of the
-- reasons with lower numbers
pub record IsFirstFailure (Holds : ℕ → Reason → Type 0) (k : ℕ) (why : Reason) : Type 0 where
  pub lines_above : (j : ℕ) (other : Reason) → j < k → Holds j other
  pub clauses_before : (other : Reason) → number_of_reason other < number_of_reason why → Holds k other
  pub fails : ¬ Holds k why

-- the verdict on an answer whose first line has this number
abbrev pub IsVerdict : (ℕ → Reason → Type 0) → ℕ → Verdict → Type 0
IsVerdict Holds first_line verdict.Yes = (k : ℕ) (why : Reason) → Holds k why
IsVerdict Holds first_line (verdict.No line why) = (k : ℕ) × (line ≡ first_line + k) × IsFirstFailure Holds k why

-- what is found at a line with these clauses: none fails there, or this one is the first that does
pub record IsFirstThere (Holds : Reason → Type 0) (why : Reason) : Type 0 where
  pub clauses_before : (other : Reason) → number_of_reason other < number_of_reason why → Holds other
  pub fails : ¬ Holds why

-- none means that all clauses hold, and a reason that its clause is the first that fails
abbrev pub Finds : (Reason → Type 0) → Option Reason → Type 0
Finds Holds None = (why : Reason) → Holds why
Finds Holds (Some why) = IsFirstThere Holds why

-- Why no verdict is given on a text, and which clauses are tried on an answer.
use Rattle.std.specs.Prelude.{ℕ, ◌∷◌, Bool, true, false, List, Option, None, Some}
use Rattle.sm_instance.specs.declared.inputs.Input.{Input}
use Rattle.sm_instance.specs.declared.inputs.Input.TheVariants.{Two, Room}
use Rattle.sm_report.specs.Heads.{HeadData}
use Rattle.sm_report.specs.Lines.{LineData}
use Rattle.sm_seats.specs.SeatEntries.{AreFewSeats, IsFirstTooMany}
use Rattle.sm_seats.specs.declared.faults.SeatsFault.{SeatsFault}
use Rattle.sm_seats.specs.declared.faults.SeatsFault.TheVariants as seats
use Rattle.sm_cert.specs.declared.faults.CertFault.{CertFault}
use Rattle.sm_cert.specs.declared.faults.CertFault.TheVariants.{TooManySeats, BadAnswer, OutOfMemory}
use Rattle.sm_check_clauses.specs.Judging.{IsBadAnswerAt}

-- the seats of an instance with two sides have few enough entries; or this is the first reviewer with whom they have too many
abbrev pub HasFewSeats : Input → Type 0
HasFewSeats (Two w) = AreFewSeats w
HasFewSeats (Room persons) = Unit {0}

-- this is the first reviewer with whom the seats of an instance with two sides have too many entries
abbrev pub HasTooManyAt : Input → ℕ → Type 0
HasTooManyAt (Two w) r = IsFirstTooMany w r
HasTooManyAt (Room persons) r = ⊥

-- what an answer answers, if it has a head
abbrev pub first_head : List LineData → Option HeadData
first_head (LineData.Answer head ∷ lines) = Some head
first_head _ = None

-- what a fault says: a text that isn't of the form of an answer yields to too many seats, and want of memory says nothing
abbrev pub IsCertFault : Input → List (List ℕ) → ℕ → CertFault → Type 0
IsCertFault input texts first_line (TooManySeats r) = HasTooManyAt input r
IsCertFault input texts first_line (BadAnswer line) = HasFewSeats input × IsBadAnswerAt input texts first_line line
IsCertFault input texts first_line OutOfMemory = Unit {0}

-- a fault of seats
abbrev pub of_seats : SeatsFault → CertFault
of_seats (seats.TooManySeats r) = TooManySeats r
of_seats seats.OutOfMemory = OutOfMemory

-- an answer over roommates says that there is no stable matching
abbrev pub says_none : List LineData → Bool
says_none (head ∷ LineData.Nothing ∷ lines) = true
says_none _ = false

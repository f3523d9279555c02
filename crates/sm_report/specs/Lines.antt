-- Lines as plain data: vectors are read as the lists of what they hold.
use Rattle.std.specs.Prelude.{ℕ, List, ℤ}
use Rattle.sm_report.specs.declared.lines.Seat.{Seat}
use Rattle.sm_report.specs.declared.lines.Line.{Line}
use Rattle.sm_report.specs.declared.lines.Line.TheVariants as line
use Rattle.sm_report.specs.Heads.{HeadData, head_of}

-- a line of an answer
pub data LineData : Type 0 where
  Answer : HeadData → LineData
  Pair : ℕ → ℕ → LineData
  Nothing : LineData
  Party : List ℕ → LineData
  Out : ℕ → LineData
  First : ℕ → Seat → LineData
  Last : ℕ → Seat → LineData
  ProposerList : ℕ → List Seat → LineData
  ReviewerList : Seat → List ℕ → LineData
  Rotation : ℕ → List (ℕ × Seat) → LineData
  Needs : ℕ → List ℕ → LineData
  Gain : ℕ → ℤ → LineData
  SecondGain : ℕ → ℤ → LineData
  Flow : ℕ → ℕ → ℕ → LineData
  SecondFlow : ℕ → ℕ → ℕ → LineData
  Taken : List ℕ → LineData
  Value : ℕ → LineData
  SecondValue : ℕ → LineData
  Cut : ℕ → LineData
  SecondCut : ℕ → LineData
  Total : ℤ → LineData
  SecondTotal : ℤ → LineData
  SomePair : ℕ → ℕ → LineData
  AllPair : ℕ → ℕ → LineData
  Vector : List ℕ → LineData
  More : List ℕ → LineData
  Regret : ℕ → LineData
  LeftPair : ℕ → ℕ → LineData
  RightPair : ℕ → ℕ → LineData
  Back : ℕ → LineData
  Forth : ℕ → LineData
  Listed : ℕ → LineData
  TallyLine : ℕ → List ℕ → LineData
  Yes : LineData
  No : ℕ → ℕ → LineData
  End : LineData

-- a line as plain data
abbrev pub line_of : Line → LineData
line_of (line.Answer h) = Answer (head_of h)
line_of (line.Pair p r) = Pair p r
line_of line.Nothing = Nothing
line_of (line.Party persons) = Party persons.items
line_of (line.Out person) = Out person
line_of (line.First p seat) = First p seat
line_of (line.Last p seat) = Last p seat
line_of (line.ProposerList p seats) = ProposerList p seats.items
line_of (line.ReviewerList seat proposers) = ReviewerList seat proposers.items
line_of (line.Rotation i pairs) = Rotation i pairs.items
line_of (line.Needs i needed) = Needs i needed.items
line_of (line.Gain i gain) = Gain i gain
line_of (line.SecondGain i gain) = SecondGain i gain
line_of (line.Flow from to amount) = Flow from to amount
line_of (line.SecondFlow from to amount) = SecondFlow from to amount
line_of (line.Taken taken) = Taken taken.items
line_of (line.Value value) = Value value
line_of (line.SecondValue value) = SecondValue value
line_of (line.Cut value) = Cut value
line_of (line.SecondCut value) = SecondCut value
line_of (line.Total weight) = Total weight
line_of (line.SecondTotal weight) = SecondTotal weight
line_of (line.SomePair p r) = SomePair p r
line_of (line.AllPair p r) = AllPair p r
line_of (line.Vector v) = Vector v.items
line_of (line.More v) = More v.items
line_of (line.Regret regret) = Regret regret
line_of (line.LeftPair p r) = LeftPair p r
line_of (line.RightPair p r) = RightPair p r
line_of (line.Back i) = Back i
line_of (line.Forth i) = Forth i
line_of (line.Listed count) = Listed count
line_of (line.TallyLine tag figures) = TallyLine tag figures.items
line_of line.Yes = Yes
line_of (line.No at reason) = No at reason
line_of line.End = End

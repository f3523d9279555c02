-- Which lines can be printed, and which are lines of an instance.
use Rattle.std.specs.Prelude.{◌≡◌, ℕ, ◌<◌, ◌≤◌, ◌^◌, List, [], ◌∷◌, length, map, All, Option, None, IsSome, IfSome}
use Rattle.std.specs.List.Sorted.{IsStrictlyIncreasing}
use Rattle.std.specs.Int.RustNames.{unsigned_abs}
use Rattle.sm_text.specs.Limits.{most_limit}
use Rattle.sm_instance.specs.Inputs.{kind_of, left_of, right_of}
use Rattle.sm_instance.specs.declared.inputs.Input.{Input}
use Rattle.sm_agents.specs.declared.kinds.Kind.{Kind}
use Rattle.sm_agents.specs.declared.kinds.Kind.TheVariants.{Marriage, Hospitals, Roommates}
use Rattle.sm_agents.specs.declared.kinds.Side.{Side}
use Rattle.sm_report.specs.declared.lines.Seat.{Seat}
use Rattle.sm_report.specs.Heads.{HeadData}
use Rattle.sm_report.specs.Meanings.{least_limit}
use Rattle.sm_report.specs.Lines.{LineData}
use Rattle.sm_report.specs.Reasons.{IsReason}

-- the agents that a line names are there, and so is the reason of a `no`
abbrev pub IsOnLeft : Input → ℕ → Type 0
IsOnLeft input p = p < length (left_of input)

-- r is a reviewer, in roommates a person
abbrev pub IsOnRight : Input → ℕ → Type 0
IsOnRight input r = r < length (right_of input)

-- p is a proposer and r a reviewer
abbrev pub ArePair : Input → ℕ → ℕ → Type 0
ArePair input p r = IsOnLeft input p × IsOnRight input r

-- each pair is of a proposer and a seat of some reviewer
abbrev pub AreSeatedPairs : Input → List (ℕ × Seat) → Type 0
AreSeatedPairs input pairs = All (λ (pair : ℕ × Seat). ArePair input pair.0 pair.1.reviewer) pairs

-- each is a seat of some reviewer
abbrev pub AreSeats : Input → List Seat → Type 0
AreSeats input seats = All (λ (seat : Seat). IsOnRight input seat.reviewer) seats

-- a line names agents of the instance and known reasons alone
abbrev pub IsPrintable : Input → LineData → Type 0
IsPrintable input (LineData.Pair p r) = ArePair input p r
IsPrintable input (LineData.Party persons) = All (IsOnLeft input) persons
IsPrintable input (LineData.Out person) = IsOnLeft input person
IsPrintable input (LineData.First p seat) = ArePair input p seat.reviewer
IsPrintable input (LineData.Last p seat) = ArePair input p seat.reviewer
IsPrintable input (LineData.ProposerList p seats) = IsOnLeft input p × AreSeats input seats
IsPrintable input (LineData.ReviewerList seat proposers) = IsOnRight input seat.reviewer × All (IsOnLeft input) proposers
IsPrintable input (LineData.Rotation i pairs) = AreSeatedPairs input pairs
IsPrintable input (LineData.SomePair p r) = ArePair input p r
IsPrintable input (LineData.AllPair p r) = ArePair input p r
IsPrintable input (LineData.LeftPair p r) = ArePair input p r
IsPrintable input (LineData.RightPair p r) = ArePair input p r
IsPrintable input (LineData.No at reason) = IsReason reason
IsPrintable input _ = Unit {0}

-- the seats that a line names
abbrev pub seats_in_line : LineData → List Seat
seats_in_line (LineData.First p seat) = seat ∷ []
seats_in_line (LineData.Last p seat) = seat ∷ []
seats_in_line (LineData.ProposerList p seats) = seats
seats_in_line (LineData.ReviewerList seat proposers) = seat ∷ []
seats_in_line (LineData.Rotation i pairs) = map (λ pair. pair.1) pairs
seats_in_line _ = []

-- a seat's number, of which there is one alone but in hospitals
abbrev pub IsSeatNumber : Kind → ℕ → Type 0
IsSeatNumber Marriage n = n ≡ 1
IsSeatNumber Hospitals n = (1 ≤ n) × (n < 2 ^ 32)
IsSeatNumber Roommates n = n ≡ 1

-- a rotation's number, and numbers of 32 and of 64 bits
pub record IsRotation (i : ℕ) : Type 0 where
  pub least : 1 ≤ i
  pub greatest : i ≤ 4294967294

-- a number of 32 bits
abbrev pub IsSmall : ℕ → Type 0
IsSmall n = n < 2 ^ 32

-- a number of 64 bits
abbrev pub IsLarge : ℕ → Type 0
IsLarge n = n < 2 ^ 64

-- numbers of rotations, each above the one before it
pub record AreRotations (ns : List ℕ) : Type 0 where
  pub each : All IsRotation ns
  pub rising : IsStrictlyIncreasing ns

-- a limit on how many are listed
abbrev pub IsLimit : ℕ → Type 0
IsLimit n = (least_limit ≤ n) × (n ≤ most_limit)

-- `solve` names a side exactly where the instance has two
abbrev pub NamesSide : Kind → Option Side → Type 0
NamesSide Marriage side = IsSome side
NamesSide Hospitals side = IsSome side
NamesSide Roommates side = side ≡ None

-- a first line that an instance of the kind can have
abbrev pub IsHeadOf : Kind → HeadData → Type 0
IsHeadOf kind (HeadData.Solve side) = NamesSide kind side
IsHeadOf kind (HeadData.List after limit) = IfSome after (All IsSmall) × IsLimit limit
IsHeadOf kind (HeadData.Survey limit) = IsLimit limit
IsHeadOf kind _ = Unit {0}

-- the other numbers of a line are within their limits
abbrev pub AreNumbers : LineData → Type 0
AreNumbers (LineData.Rotation i pairs) = IsRotation i
AreNumbers (LineData.Needs i needed) = IsRotation i × AreRotations needed
AreNumbers (LineData.Gain i gain) = IsRotation i × (unsigned_abs gain ≤ 9223372036854775807)
AreNumbers (LineData.SecondGain i gain) = IsRotation i × (unsigned_abs gain ≤ 9223372036854775807)
AreNumbers (LineData.Flow from to amount) = IsSmall from × IsSmall to × IsLarge amount
AreNumbers (LineData.SecondFlow from to amount) = IsSmall from × IsSmall to × IsLarge amount
AreNumbers (LineData.Taken taken) = AreRotations taken
AreNumbers (LineData.Value value) = IsLarge value
AreNumbers (LineData.SecondValue value) = IsLarge value
AreNumbers (LineData.Cut value) = IsLarge value
AreNumbers (LineData.SecondCut value) = IsLarge value
AreNumbers (LineData.Total weight) = unsigned_abs weight ≤ 9223372036854775807
AreNumbers (LineData.SecondTotal weight) = unsigned_abs weight ≤ 9223372036854775807
AreNumbers (LineData.Vector v) = All IsSmall v
AreNumbers (LineData.More v) = All IsSmall v
AreNumbers (LineData.Back i) = IsRotation i
AreNumbers (LineData.Forth i) = IsRotation i
AreNumbers (LineData.Regret regret) = IsSmall regret
AreNumbers (LineData.Listed count) = IsSmall count
AreNumbers (LineData.TallyLine tag figures) = IsSmall tag × All IsLarge figures
AreNumbers (LineData.No at reason) = IsSmall at
AreNumbers _ = Unit {0}

-- a line that is no first line, or one that an instance of the kind can have
abbrev pub HasHeadOf : Kind → LineData → Type 0
HasHeadOf kind (LineData.Answer head) = IsHeadOf kind head
HasHeadOf kind _ = Unit {0}

-- a line of an instance
pub record IsLineOf (input : Input) (line : LineData) : Type 0 where
  pub printable : IsPrintable input line
  pub seats : All (λ (seat : Seat). IsSeatNumber (kind_of input) seat.number) (seats_in_line line)
  pub numbers : AreNumbers line
  pub head : HasHeadOf (kind_of input) line

-- The text of each line of an answer: its fields with one space between them.
use Rattle.std.specs.Prelude.{ℕ, ◌==◌, List, [], ◌∷◌, ◌++◌, map, Some, None, codes, decimal, if◌then◌else◌}
use Rattle.std.specs.List.{flat_map, join_with_byte}
use Rattle.std.specs.Fmt.{signed_decimal}
use Rattle.sm_agents.specs.Written.{agent_at}
use Rattle.sm_instance.specs.Inputs.{kind_of, left_of, right_of}
use Rattle.sm_instance.specs.declared.inputs.Input.{Input}
use Rattle.sm_agents.specs.declared.kinds.Kind.{Kind}
use Rattle.sm_agents.specs.declared.kinds.Kind.TheVariants.{Marriage, Hospitals, Roommates}
use Rattle.sm_agents.specs.declared.kinds.Side.TheVariants.{Proposers, Reviewers}
use Rattle.sm_agents.specs.declared.kinds.Measure.TheVariants.{Ranks, Given}
use Rattle.sm_report.specs.declared.lines.Seat.{Seat}
use Rattle.sm_report.specs.Heads.{HeadData}
use Rattle.sm_report.specs.Lines.{LineData}
use Rattle.sm_report.specs.Reasons.{name_of_reason}

-- the name of a proposer and of a reviewer, in roommates of a person
abbrev pub left_name : Input → ℕ → List ℕ
left_name input p = (agent_at (left_of input) p).name

-- the name of a reviewer, in roommates of a person
abbrev pub right_name : Input → ℕ → List ℕ
right_name input r = (agent_at (right_of input) r).name

-- a seat is written as its reviewer's name, in hospitals with `/` and its number behind it
abbrev pub seat_text_in : Kind → List ℕ → ℕ → List ℕ
seat_text_in Marriage name number = name
seat_text_in Hospitals name number = name ++ codes "/" ++ decimal number
seat_text_in Roommates name number = name

-- the text of a seat of an instance
abbrev pub seat_text : Input → Seat → List ℕ
seat_text input seat = seat_text_in (kind_of input) (right_name input seat.reviewer) seat.number

-- the fields of a list, of which there is one where it is empty
abbrev pub listed : List (List ℕ) → List (List ℕ)
listed [] = codes "-" ∷ []
listed (x ∷ xs) = x ∷ xs

-- the fields of a list of proposers
abbrev pub lefts : Input → List ℕ → List (List ℕ)
lefts input proposers = listed (map (left_name input) proposers)

-- the fields of a list of seats
abbrev pub seats : Input → List Seat → List (List ℕ)
seats input list = listed (map (seat_text input) list)

-- the fields of a list of proposers, each with a seat
abbrev pub seated_pairs : Input → List (ℕ × Seat) → List (List ℕ)
seated_pairs input pairs = listed (flat_map (λ pair. left_name input pair.0 ∷ seat_text input pair.1 ∷ []) pairs)

-- the fields of a list of numbers
abbrev pub numbers : List ℕ → List (List ℕ)
numbers ns = listed (map decimal ns)

-- a vector is its numbers with a comma between them
abbrev pub vector_text : List ℕ → List ℕ
vector_text [] = codes "-"
vector_text (n ∷ ns) = join_with_byte 44 (map decimal (n ∷ ns))

-- an end of a flow: the source, the sink, or a rotation by its number
abbrev pub SOURCE : ℕ
SOURCE = 0

-- the number of the sink
abbrev pub SINK : ℕ
SINK = 4294967295

-- the text of an end of a flow
abbrev pub end_text : ℕ → List ℕ
end_text n = if n == SOURCE then codes "S" else (if n == SINK then codes "T" else decimal n)

-- a command with its operands
abbrev pub limit_text : ℕ → List ℕ
limit_text limit = codes "limit=" ++ decimal limit

-- the fields of a first line behind its word
abbrev pub fields_of_head : HeadData → List (List ℕ)
fields_of_head (HeadData.Solve None) = codes "solve" ∷ []
fields_of_head (HeadData.Solve (Some Proposers)) = codes "solve" ∷ codes "side=proposers" ∷ []
fields_of_head (HeadData.Solve (Some Reviewers)) = codes "solve" ∷ codes "side=reviewers" ∷ []
fields_of_head HeadData.Reduced = codes "reduced" ∷ []
fields_of_head HeadData.Rotations = codes "rotations" ∷ []
fields_of_head HeadData.Pairs = codes "pairs" ∷ []
fields_of_head (HeadData.List None limit) = codes "list" ∷ limit_text limit ∷ []
fields_of_head (HeadData.List (Some v) limit) = codes "list" ∷ (codes "after=" ++ vector_text v) ∷ limit_text limit ∷ []
fields_of_head HeadData.Regret = codes "regret" ∷ []
fields_of_head (HeadData.Weight Ranks) = codes "weight" ∷ codes "by=ranks" ∷ []
fields_of_head (HeadData.Weight Given) = codes "weight" ∷ codes "by=given" ∷ []
fields_of_head HeadData.Meet = codes "meet" ∷ []
fields_of_head HeadData.Join = codes "join" ∷ []
fields_of_head (HeadData.Survey limit) = codes "survey" ∷ limit_text limit ∷ []
fields_of_head HeadData.Check = codes "check" ∷ []
fields_of_head HeadData.Median = codes "median" ∷ []
fields_of_head HeadData.Route = codes "route" ∷ []
fields_of_head HeadData.Rest = codes "rest" ∷ []

-- the fields of a line
abbrev pub fields_of : Input → LineData → List (List ℕ)
fields_of input (LineData.Answer head) = codes "answer" ∷ fields_of_head head
fields_of input (LineData.Pair p r) = codes "pair" ∷ left_name input p ∷ right_name input r ∷ []
fields_of input LineData.Nothing = codes "none" ∷ []
fields_of input (LineData.Party persons) = codes "party" ∷ lefts input persons
fields_of input (LineData.Out person) = codes "out" ∷ left_name input person ∷ []
fields_of input (LineData.First p seat) = codes "first" ∷ left_name input p ∷ seat_text input seat ∷ []
fields_of input (LineData.Last p seat) = codes "last" ∷ left_name input p ∷ seat_text input seat ∷ []
fields_of input (LineData.ProposerList p list) = codes "proposer" ∷ left_name input p ∷ seats input list
fields_of input (LineData.ReviewerList seat proposers) = codes "reviewer" ∷ seat_text input seat ∷ lefts input proposers
fields_of input (LineData.Rotation i pairs) = codes "rotation" ∷ decimal i ∷ seated_pairs input pairs
fields_of input (LineData.Needs i needed) = codes "needs" ∷ decimal i ∷ numbers needed
fields_of input (LineData.Gain i gain) = codes "gain" ∷ decimal i ∷ signed_decimal gain ∷ []
fields_of input (LineData.SecondGain i gain) = codes "gain2" ∷ decimal i ∷ signed_decimal gain ∷ []
fields_of input (LineData.Flow from to amount) = codes "flow" ∷ end_text from ∷ end_text to ∷ decimal amount ∷ []
fields_of input (LineData.SecondFlow from to amount) = codes "flow2" ∷ end_text from ∷ end_text to ∷ decimal amount ∷ []
fields_of input (LineData.Taken taken) = codes "taken" ∷ numbers taken
fields_of input (LineData.Value value) = codes "value" ∷ decimal value ∷ []
fields_of input (LineData.SecondValue value) = codes "value2" ∷ decimal value ∷ []
fields_of input (LineData.Cut value) = codes "cut" ∷ decimal value ∷ []
fields_of input (LineData.SecondCut value) = codes "cut2" ∷ decimal value ∷ []
fields_of input (LineData.Total weight) = codes "total" ∷ signed_decimal weight ∷ []
fields_of input (LineData.SecondTotal weight) = codes "total2" ∷ signed_decimal weight ∷ []
fields_of input (LineData.SomePair p r) = codes "some" ∷ left_name input p ∷ right_name input r ∷ []
fields_of input (LineData.AllPair p r) = codes "all" ∷ left_name input p ∷ right_name input r ∷ []
fields_of input (LineData.Vector v) = codes "vector" ∷ vector_text v ∷ []
fields_of input (LineData.More v) = codes "more" ∷ vector_text v ∷ []
fields_of input (LineData.Regret regret) = codes "regret" ∷ decimal regret ∷ []
fields_of input (LineData.LeftPair p r) = codes "left" ∷ left_name input p ∷ right_name input r ∷ []
fields_of input (LineData.RightPair p r) = codes "right" ∷ left_name input p ∷ right_name input r ∷ []
fields_of input (LineData.Back i) = codes "back" ∷ decimal i ∷ []
fields_of input (LineData.Forth i) = codes "forth" ∷ decimal i ∷ []
fields_of input (LineData.Listed count) = codes "listed" ∷ decimal count ∷ []
fields_of input (LineData.TallyLine tag figures) = codes "tally" ∷ decimal tag ∷ numbers figures
fields_of input LineData.Yes = codes "yes" ∷ []
fields_of input (LineData.No at reason) = codes "no" ∷ decimal at ∷ name_of_reason reason ∷ []
fields_of input LineData.End = codes "end" ∷ []

-- the text of a line, and of lines with their ends
abbrev pub text_of_line : Input → LineData → List ℕ
text_of_line input line = join_with_byte 32 (fields_of input line)

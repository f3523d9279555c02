-- What the fields of a line mean.
use Rattle.std.specs.Prelude.{ℕ, ◌+◌, ◌==◌, nat_lt, Bool, if◌then◌else◌, List, [], ◌∷◌, length, take, drop, codes, position, Option, Some, None, option_map, ℤ}
use Rattle.std.specs.List.{slice_split, before_first, after_first}
use Rattle.std.specs.Option.{option_and_then, option_zip}
use Rattle.std.specs.Str.{bytes_eq}
use Rattle.sm_text.specs.Limits.{most_limit}
use Rattle.sm_text.specs.Numbers.{number_of, signed_of}
use Rattle.sm_agents.specs.Written.{names_of}
use Rattle.sm_instance.specs.Inputs.{kind_of, left_of, right_of}
use Rattle.sm_instance.specs.declared.inputs.Input.{Input}
use Rattle.sm_agents.specs.declared.kinds.Kind.{Kind}
use Rattle.sm_agents.specs.declared.kinds.Kind.TheVariants.{Marriage, Hospitals, Roommates}
use Rattle.sm_agents.specs.declared.kinds.Side.{Side}
use Rattle.sm_agents.specs.declared.kinds.Side.TheVariants.{Proposers, Reviewers}
use Rattle.sm_agents.specs.declared.kinds.Measure.{Measure}
use Rattle.sm_agents.specs.declared.kinds.Measure.TheVariants.{Ranks, Given}
use Rattle.sm_report.specs.declared.lines.Seat.{Seat}
use Rattle.sm_report.specs.Heads.{HeadData}
use Rattle.sm_report.specs.declared.keywords.Keyword.{Keyword}
use Rattle.sm_report.specs.declared.keywords.Keyword.TheVariants as keyword
use Rattle.sm_report.specs.Lines.{LineData}
use Rattle.sm_report.specs.Reasons.{reasons}
use Rattle.sm_report.specs.Texts.{SOURCE, SINK}
use Rattle.sm_report.specs.Vectors.{each_in, vector_in}

-- the fields of a text, between which single spaces stand
abbrev pub is_space : ℕ → Bool
is_space b = b == 32

-- the fields of a text
abbrev pub fields_in : List ℕ → List (List ℕ)
fields_in text = slice_split is_space text

-- what stands beside a name
abbrev pub look_up : {X : Type 0} → List (List ℕ × X) → List ℕ → Option X
look_up [] name = None
look_up (row ∷ rows) name = if bytes_eq name row.0 then Some row.1 else look_up rows name

-- the keywords with which lines begin
abbrev pub keywords : List (List ℕ × Keyword)
keywords =
    (codes "answer", keyword.Answer)
    ∷ (codes "pair", keyword.Pair)
    ∷ (codes "none", keyword.Nothing)
    ∷ (codes "party", keyword.Party)
    ∷ (codes "first", keyword.First)
    ∷ (codes "last", keyword.Last)
    ∷ (codes "proposer", keyword.Proposer)
    ∷ (codes "reviewer", keyword.Reviewer)
    ∷ (codes "rotation", keyword.Rotation)
    ∷ (codes "needs", keyword.Needs)
    ∷ (codes "gain", keyword.Gain)
    ∷ (codes "flow", keyword.Flow)
    ∷ (codes "taken", keyword.Taken)
    ∷ (codes "value", keyword.Value)
    ∷ (codes "cut", keyword.Cut)
    ∷ (codes "total", keyword.Total)
    ∷ (codes "some", keyword.Some)
    ∷ (codes "all", keyword.All)
    ∷ (codes "vector", keyword.Vector)
    ∷ (codes "more", keyword.More)
    ∷ (codes "regret", keyword.Regret)
    ∷ (codes "left", keyword.Left)
    ∷ (codes "right", keyword.Right)
    ∷ (codes "listed", keyword.Listed)
    ∷ (codes "tally", keyword.Tally)
    ∷ (codes "yes", keyword.Yes)
    ∷ (codes "no", keyword.No)
    ∷ (codes "end", keyword.End)
    ∷ (codes "gain2", keyword.SecondGain)
    ∷ (codes "flow2", keyword.SecondFlow)
    ∷ (codes "value2", keyword.SecondValue)
    ∷ (codes "cut2", keyword.SecondCut)
    ∷ (codes "total2", keyword.SecondTotal)
    ∷ (codes "back", keyword.Back)
    ∷ (codes "forth", keyword.Forth)
    ∷ (codes "out", keyword.Out)
    ∷ []

-- the proposer and the reviewer with a name, in roommates the person
unfoldable pub left_in : Input → List ℕ → Option ℕ
left_in input name = position (bytes_eq name) (names_of (left_of input))

-- the reviewer with a name, in roommates the person
unfoldable pub right_in : Input → List ℕ → Option ℕ
right_in input name = position (bytes_eq name) (names_of (right_of input))

-- a number within bounds
abbrev pub at_least : ℕ → Option ℕ → Option ℕ
at_least least None = None
at_least least (Some n) = if nat_lt n least then None else Some n

-- the number that a text spells, where it is within bounds
abbrev pub number_within : ℕ → ℕ → List ℕ → Option ℕ
number_within least most text = at_least least (number_of text most)

-- a number of 32 bits
abbrev pub small_in : List ℕ → Option ℕ
small_in text = number_of text 4294967295

-- a number of 64 bits
abbrev pub large_in : List ℕ → Option ℕ
large_in text = number_of text 18446744073709551615

-- a number with a sign, whose size fits 63 bits
abbrev pub signed_in : List ℕ → Option ℤ
signed_in text = signed_of text 9223372036854775807

-- the number of a rotation
abbrev pub rotation_in : List ℕ → Option ℕ
rotation_in text = number_within 1 4294967294 text

-- a seat: a reviewer's name, in hospitals with `/` and the seat's number behind it
abbrev pub is_slash : ℕ → Bool
is_slash b = b == 47

-- a seat by its reviewer and its number
abbrev pub seat : ℕ → ℕ → Seat
seat reviewer number = record { reviewer = reviewer; number = number }

-- a seat that is written with its number
abbrev pub numbered_seat_in : (List ℕ → Option ℕ) → List ℕ → Option Seat
numbered_seat_in named text =
    option_map (λ x. seat x.0 x.1) (option_zip (named (before_first is_slash text)) (number_within 1 4294967295 (after_first is_slash text)))

-- a seat as each kind of instance writes it
abbrev pub seat_by : Kind → (List ℕ → Option ℕ) → List ℕ → Option Seat
seat_by Marriage named text = option_map (λ r. seat r 1) (named text)
seat_by Hospitals named text = numbered_seat_in named text
seat_by Roommates named text = option_map (λ r. seat r 1) (named text)

-- a seat of an instance
abbrev pub seat_in : Input → List ℕ → Option Seat
seat_in input text = seat_by (kind_of input) (right_in input) text

-- an end of a flow
abbrev pub end_in : List ℕ → Option ℕ
end_in text = if bytes_eq text (codes "S") then Some SOURCE else (if bytes_eq text (codes "T") then Some SINK else rotation_in text)

-- a reason, by its number from 1
abbrev pub reason_in : List ℕ → Option ℕ
reason_in text = option_map (λ at. at + 1) (position (bytes_eq text) reasons)

-- one field, two and three, and a field with others behind it
unfoldable pub one_of : List (List ℕ) → Option (List ℕ)
one_of (a ∷ []) = Some a
one_of _ = None

-- exactly two fields
unfoldable pub two_of : List (List ℕ) → Option (List ℕ × List ℕ)
two_of (a ∷ b ∷ []) = Some (a, b)
two_of _ = None

-- exactly three fields
unfoldable pub three_of : List (List ℕ) → Option (List ℕ × List ℕ × List ℕ)
three_of (a ∷ b ∷ c ∷ []) = Some (a, b, c)
three_of _ = None

-- a field, and those behind it
unfoldable pub headed_of : List (List ℕ) → Option (List ℕ × List (List ℕ))
headed_of [] = None
headed_of (a ∷ more) = Some (a, more)

-- the items of a list, of which there are none where it is written `-`
unfoldable pub items_in : List (List ℕ) → Option (List (List ℕ))
items_in [] = None
items_in (text ∷ []) = if bytes_eq text (codes "-") then Some [] else Some (text ∷ [])
items_in (text ∷ next ∷ more) = Some (text ∷ next ∷ more)

-- lists of proposers, of seats and of numbers
abbrev pub lefts_in : Input → List (List ℕ) → Option (List ℕ)
lefts_in input fields = option_and_then (each_in (left_in input)) (items_in fields)

-- a list of seats
abbrev pub seats_in : Input → List (List ℕ) → Option (List Seat)
seats_in input fields = option_and_then (each_in (seat_in input)) (items_in fields)

-- a list of numbers of 64 bits
abbrev pub figures_in : List (List ℕ) → Option (List ℕ)
figures_in fields = option_and_then (each_in large_in) (items_in fields)

-- rotations, each above the one before it, the first above some number
abbrev pub rising_above : ℕ → List (List ℕ) → Option (List ℕ)
rising_above last [] = Some []
rising_above last (text ∷ more) =
    option_and_then (λ n. option_map (λ ns. n ∷ ns) (rising_above n more)) (number_within (last + 1) 4294967294 text)

-- a list of rotations, rising
abbrev pub rising_in : List (List ℕ) → Option (List ℕ)
rising_in fields = option_and_then (rising_above 0) (items_in fields)

-- proposers, each with a seat
abbrev pub each_pair_in : {X Y : Type 0} → (List ℕ → Option X) → (List ℕ → Option Y) → List (List ℕ) → Option (List (X × Y))
each_pair_in read then_read [] = Some []
each_pair_in read then_read (text ∷ []) = None
each_pair_in read then_read (text ∷ next ∷ more) =
    option_and_then (λ x. option_map (λ xs. x ∷ xs) (each_pair_in read then_read more)) (option_zip (read text) (then_read next))

-- a list of proposers, each with a seat
abbrev pub seated_pairs_in : Input → List (List ℕ) → Option (List (ℕ × Seat))
seated_pairs_in input fields = option_and_then (each_pair_in (left_in input) (seat_in input)) (items_in fields)

-- two agents, and a proposer with a seat
abbrev pub pair_in : Input → List (List ℕ) → Option (ℕ × ℕ)
pair_in input fields = option_and_then (λ x. option_zip (left_in input x.0) (right_in input x.1)) (two_of fields)

-- a proposer with a seat
abbrev pub seated_in : Input → List (List ℕ) → Option (ℕ × Seat)
seated_in input fields = option_and_then (λ x. option_zip (left_in input x.0) (seat_in input x.1)) (two_of fields)

-- a proposer or a seat with a list, and a rotation or a tag with a list
abbrev pub proposer_in : Input → List (List ℕ) → Option (ℕ × List Seat)
proposer_in input fields = option_and_then (λ x. option_zip (left_in input x.0) (seats_in input x.1)) (headed_of fields)

-- a seat with a list of proposers
abbrev pub reviewer_in : Input → List (List ℕ) → Option (Seat × List ℕ)
reviewer_in input fields = option_and_then (λ x. option_zip (seat_in input x.0) (lefts_in input x.1)) (headed_of fields)

-- a rotation with its pairs
abbrev pub rotation_with_pairs_in : Input → List (List ℕ) → Option (ℕ × List (ℕ × Seat))
rotation_with_pairs_in input fields = option_and_then (λ x. option_zip (rotation_in x.0) (seated_pairs_in input x.1)) (headed_of fields)

-- a rotation with a list of rotations
abbrev pub needs_in : List (List ℕ) → Option (ℕ × List ℕ)
needs_in fields = option_and_then (λ x. option_zip (rotation_in x.0) (rising_in x.1)) (headed_of fields)

-- a tag with a list of numbers
abbrev pub tally_in : List (List ℕ) → Option (ℕ × List ℕ)
tally_in fields = option_and_then (λ x. option_zip (small_in x.0) (figures_in x.1)) (headed_of fields)

-- numbers: what a rotation adds, what flows between two ends, and a line with a reason
abbrev pub gain_in : List (List ℕ) → Option (ℕ × ℤ)
gain_in fields = option_and_then (λ x. option_zip (rotation_in x.0) (signed_in x.1)) (two_of fields)

-- two ends and an amount
abbrev pub flow_of : (List ℕ × List ℕ × List ℕ) → Option ((ℕ × ℕ) × ℕ)
flow_of x = option_zip (option_zip (end_in x.0) (end_in x.1)) (large_in x.2)

-- what flows between two ends
abbrev pub flow_in : List (List ℕ) → Option ((ℕ × ℕ) × ℕ)
flow_in fields = option_and_then flow_of (three_of fields)

-- the number of a line, and a reason
abbrev pub no_in : List (List ℕ) → Option (ℕ × ℕ)
no_in fields = option_and_then (λ x. option_zip (small_in x.0) (reason_in x.1)) (two_of fields)

-- a command with its operands
abbrev pub behind_word : List ℕ → List ℕ → Option (List ℕ)
behind_word name text = if bytes_eq (take (length name) text) name then Some (drop (length name) text) else None

-- the least limit on how many are listed
abbrev pub least_limit : ℕ
least_limit = 1

-- the limit that a text spells
abbrev pub limit_named : List ℕ → Option ℕ
limit_named text = number_within least_limit most_limit text

-- the operand of how many are listed
abbrev pub limit_in : List ℕ → Option ℕ
limit_in operand = option_and_then limit_named (behind_word (codes "limit=") operand)

-- the operand of the vector behind which the list begins
abbrev pub after_in : List ℕ → Option (List ℕ)
after_in operand = option_and_then vector_in (behind_word (codes "after=") operand)

-- the sides by their names
abbrev pub sides : List (List ℕ × Side)
sides = (codes "proposers", Proposers) ∷ (codes "reviewers", Reviewers) ∷ []

-- by which weights: the ranks of both, or those that are given
abbrev pub measures : List (List ℕ × Measure)
measures = (codes "ranks", Ranks) ∷ (codes "given", Given) ∷ []

-- the commands without an operand
abbrev pub bare_heads : List (List ℕ × HeadData)
bare_heads =
    (codes "reduced", HeadData.Reduced)
    ∷ (codes "rotations", HeadData.Rotations)
    ∷ (codes "pairs", HeadData.Pairs)
    ∷ (codes "regret", HeadData.Regret)
    ∷ (codes "meet", HeadData.Meet)
    ∷ (codes "join", HeadData.Join)
    ∷ (codes "check", HeadData.Check)
    ∷ (codes "median", HeadData.Median)
    ∷ (codes "route", HeadData.Route)
    ∷ (codes "rest", HeadData.Rest)
    ∷ []

-- a command that stands alone; in roommates `solve` is one
abbrev pub bare_head_in : Kind → List ℕ → Option HeadData
bare_head_in Marriage command = look_up bare_heads command
bare_head_in Hospitals command = look_up bare_heads command
bare_head_in Roommates command = look_up ((codes "solve", HeadData.Solve None) ∷ bare_heads) command

-- the side that an operand names, where the instance has two
abbrev pub side_in : Kind → List ℕ → Option Side
side_in Marriage operand = option_and_then (look_up sides) (behind_word (codes "side=") operand)
side_in Hospitals operand = option_and_then (look_up sides) (behind_word (codes "side=") operand)
side_in Roommates operand = None

-- the measure that an operand names
abbrev pub measure_in : List ℕ → Option Measure
measure_in operand = option_and_then (look_up measures) (behind_word (codes "by=") operand)

-- a command with one operand
abbrev pub operand_head_in : Kind → List ℕ → List ℕ → Option HeadData
operand_head_in kind command operand =
    if bytes_eq command (codes "solve") then option_map (λ side. HeadData.Solve (Some side)) (side_in kind operand) else
    (if bytes_eq command (codes "weight") then option_map HeadData.Weight (measure_in operand) else
    (if bytes_eq command (codes "list") then option_map (HeadData.List None) (limit_in operand) else
    (if bytes_eq command (codes "survey") then option_map HeadData.Survey (limit_in operand) else None)))

-- `list` with both its operands
abbrev pub list_head_in : List ℕ → List ℕ → List ℕ → Option HeadData
list_head_in command after limit =
    if bytes_eq command (codes "list") then option_map (λ x. HeadData.List (Some x.0) x.1) (option_zip (after_in after) (limit_in limit)) else None

-- the first line that a command with its operands makes
unfoldable pub head_in : Kind → List (List ℕ) → Option HeadData
head_in kind (command ∷ []) = bare_head_in kind command
head_in kind (command ∷ operand ∷ []) = operand_head_in kind command operand
head_in kind (command ∷ after ∷ limit ∷ []) = list_head_in command after limit
head_in kind _ = None

-- the line that begins with a keyword and has these fields behind it
unfoldable pub bare_in : LineData → List (List ℕ) → Option LineData
bare_in line [] = Some line
bare_in line (_ ∷ _) = None

-- the line that a keyword and the fields behind it make
abbrev pub line_behind : Input → Keyword → List (List ℕ) → Option LineData
line_behind input keyword.Answer fields = option_map LineData.Answer (head_in (kind_of input) fields)
line_behind input keyword.Pair fields = option_map (λ x. LineData.Pair x.0 x.1) (pair_in input fields)
line_behind input keyword.Nothing fields = bare_in LineData.Nothing fields
line_behind input keyword.Party fields = option_map LineData.Party (lefts_in input fields)
line_behind input keyword.First fields = option_map (λ x. LineData.First x.0 x.1) (seated_in input fields)
line_behind input keyword.Last fields = option_map (λ x. LineData.Last x.0 x.1) (seated_in input fields)
line_behind input keyword.Proposer fields = option_map (λ x. LineData.ProposerList x.0 x.1) (proposer_in input fields)
line_behind input keyword.Reviewer fields = option_map (λ x. LineData.ReviewerList x.0 x.1) (reviewer_in input fields)
line_behind input keyword.Rotation fields = option_map (λ x. LineData.Rotation x.0 x.1) (rotation_with_pairs_in input fields)
line_behind input keyword.Needs fields = option_map (λ x. LineData.Needs x.0 x.1) (needs_in fields)
line_behind input keyword.Gain fields = option_map (λ x. LineData.Gain x.0 x.1) (gain_in fields)
line_behind input keyword.Flow fields = option_map (λ x. LineData.Flow x.0.0 x.0.1 x.1) (flow_in fields)
line_behind input keyword.Taken fields = option_map LineData.Taken (rising_in fields)
line_behind input keyword.Value fields = option_map LineData.Value (option_and_then large_in (one_of fields))
line_behind input keyword.Cut fields = option_map LineData.Cut (option_and_then large_in (one_of fields))
line_behind input keyword.Total fields = option_map LineData.Total (option_and_then signed_in (one_of fields))
line_behind input keyword.Some fields = option_map (λ x. LineData.SomePair x.0 x.1) (pair_in input fields)
line_behind input keyword.All fields = option_map (λ x. LineData.AllPair x.0 x.1) (pair_in input fields)
line_behind input keyword.Vector fields = option_map LineData.Vector (option_and_then vector_in (one_of fields))
line_behind input keyword.More fields = option_map LineData.More (option_and_then vector_in (one_of fields))
line_behind input keyword.Regret fields = option_map LineData.Regret (option_and_then small_in (one_of fields))
line_behind input keyword.Left fields = option_map (λ x. LineData.LeftPair x.0 x.1) (pair_in input fields)
line_behind input keyword.Right fields = option_map (λ x. LineData.RightPair x.0 x.1) (pair_in input fields)
line_behind input keyword.Listed fields = option_map LineData.Listed (option_and_then small_in (one_of fields))
line_behind input keyword.Tally fields = option_map (λ x. LineData.TallyLine x.0 x.1) (tally_in fields)
line_behind input keyword.Yes fields = bare_in LineData.Yes fields
line_behind input keyword.No fields = option_map (λ x. LineData.No x.0 x.1) (no_in fields)
line_behind input keyword.End fields = bare_in LineData.End fields
line_behind input keyword.SecondGain fields = option_map (λ x. LineData.SecondGain x.0 x.1) (gain_in fields)
line_behind input keyword.SecondFlow fields = option_map (λ x. LineData.SecondFlow x.0.0 x.0.1 x.1) (flow_in fields)
line_behind input keyword.SecondValue fields = option_map LineData.SecondValue (option_and_then large_in (one_of fields))
line_behind input keyword.SecondCut fields = option_map LineData.SecondCut (option_and_then large_in (one_of fields))
line_behind input keyword.SecondTotal fields = option_map LineData.SecondTotal (option_and_then signed_in (one_of fields))
line_behind input keyword.Back fields = option_map LineData.Back (option_and_then rotation_in (one_of fields))
line_behind input keyword.Forth fields = option_map LineData.Forth (option_and_then rotation_in (one_of fields))
line_behind input keyword.Out fields = option_map LineData.Out (option_and_then (left_in input) (one_of fields))

-- the line that these fields make
abbrev pub line_in : Input → List (List ℕ) → Option LineData
line_in input fields = option_and_then (λ x. option_and_then (λ w. line_behind input w x.1) (look_up keywords x.0)) (headed_of fields)

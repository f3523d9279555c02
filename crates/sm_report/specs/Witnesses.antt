-- Lines of each kind with their texts by hand, in a marriage, in hospitals and in roommates.
use Rattle.std.specs.Prelude.{◌≡◌, ℕ, List, [], ◌∷◌, map, Some, None, pos, negsuc, codes}
use Rattle.sm_agents.specs.Written.{AgentData, plain_written}
use Rattle.sm_agents.specs.declared.kinds.Kind.{Kind}
use Rattle.sm_agents.specs.declared.kinds.Kind.TheVariants.{Marriage, Hospitals}
use Rattle.sm_agents.specs.declared.kinds.Side.TheVariants.{Proposers, Reviewers}
use Rattle.sm_agents.specs.declared.kinds.Measure.TheVariants.{Ranks, Given}
use Rattle.sm_instance.specs.declared.inputs.Input.{Input}
use Rattle.sm_instance.specs.declared.inputs.Input.TheVariants.{Two, Room}
use Rattle.sm_report.specs.declared.lines.Seat.{Seat}
use Rattle.sm_report.specs.Heads.{HeadData}
use Rattle.sm_report.specs.Lines.{LineData}
use Rattle.sm_report.specs.Texts.{text_of_line}
use Rattle.sm_report.specs.Meanings.{fields_in, line_in}

-- an agent with a name, a capacity and an empty list
abbrev pub agent : List ℕ → ℕ → AgentData
agent name capacity = record { name = name; capacity = capacity; line = 0; entries = [] }

-- the proposers a and b, and the reviewers h1 and h2 of so many places
abbrev pub two_sided : Kind → ℕ → Input
two_sided kind capacity = Two (plain_written kind
    (agent (codes "a") 1 ∷ agent (codes "b") 1 ∷ [])
    (agent (codes "h1") capacity ∷ agent (codes "h2") capacity ∷ [])
    [] [] [])

-- the persons x and y
abbrev pub room : Input
room = Room (agent (codes "x") 1 ∷ agent (codes "y") 1 ∷ [])

-- a seat by its reviewer and its number
abbrev pub seat : ℕ → ℕ → Seat
seat reviewer number = record { reviewer = reviewer; number = number }

-- the first seat of a reviewer
abbrev pub first_seat_of : ℕ → Seat
first_seat_of r = seat r 1

-- each line has the text beside it, and is what the text is read as
abbrev pub HaveTexts : Input → List (LineData × List ℕ) → Type 0
HaveTexts input rows = map (λ row. text_of_line input row.0) rows ≡ map (λ row. row.1) rows

-- each text is read as the line beside it
abbrev pub AreRead : Input → List (LineData × List ℕ) → Type 0
AreRead input rows = map (λ row. line_in input (fields_in row.1)) rows ≡ map (λ row. Some row.0) rows

-- no line is read from any of these texts
abbrev pub AreRefused : Input → List (List ℕ) → Type 0
AreRefused input texts = map (λ text. line_in input (fields_in text)) texts ≡ map (λ _. None) texts

-- lines that name agents: a seat has its number in hospitals alone, and an empty list is a dash
abbrev pub marriage_lines : List (LineData × List ℕ)
marriage_lines =
    (LineData.Pair 0 1, codes "pair a h2")
    ∷ (LineData.SomePair 1 0, codes "some b h1")
    ∷ (LineData.AllPair 0 0, codes "all a h1")
    ∷ (LineData.LeftPair 1 1, codes "left b h2")
    ∷ (LineData.RightPair 0 1, codes "right a h2")
    ∷ (LineData.First 0 (seat 1 1), codes "first a h2")
    ∷ (LineData.Last 1 (seat 0 1), codes "last b h1")
    ∷ (LineData.ProposerList 0 (seat 1 1 ∷ seat 0 1 ∷ []), codes "proposer a h2 h1")
    ∷ (LineData.ProposerList 1 [], codes "proposer b -")
    ∷ (LineData.ReviewerList (seat 1 1) [], codes "reviewer h2 -")
    ∷ (LineData.Rotation 12 ((0, seat 1 1) ∷ (1, seat 0 1) ∷ []), codes "rotation 12 a h2 b h1") ∷ []

-- lines of hospitals, where a seat has its number
abbrev pub hospital_lines : List (LineData × List ℕ)
hospital_lines =
    (LineData.Pair 1 0, codes "pair b h1")
    ∷ (LineData.First 1 (seat 0 3), codes "first b h1/3")
    ∷ (LineData.Last 0 (seat 1 1), codes "last a h2/1")
    ∷ (LineData.ProposerList 1 (seat 1 3 ∷ seat 0 1 ∷ []), codes "proposer b h2/3 h1/1")
    ∷ (LineData.ReviewerList (seat 0 2) (1 ∷ 0 ∷ []), codes "reviewer h1/2 b a")
    ∷ (LineData.Rotation 1 ((0, seat 0 1) ∷ (1, seat 1 2) ∷ []), codes "rotation 1 a h1/1 b h2/2") ∷ []

-- lines of roommates
abbrev pub room_lines : List (LineData × List ℕ)
room_lines =
    (LineData.Answer (HeadData.Solve None), codes "answer solve")
    ∷ (LineData.Pair 0 1, codes "pair x y")
    ∷ (LineData.Party (1 ∷ 0 ∷ []), codes "party y x")
    ∷ (LineData.Answer HeadData.Rest, codes "answer rest")
    ∷ (LineData.Out 1, codes "out y") ∷ []

-- lines of words and numbers: lists have spaces, and vectors commas
abbrev pub number_lines : List (LineData × List ℕ)
number_lines =
    (LineData.Nothing, codes "none")
    ∷ (LineData.Yes, codes "yes")
    ∷ (LineData.No 2 1, codes "no 2 NotAMatching")
    ∷ (LineData.No 24 11, codes "no 24 NotConserved")
    ∷ (LineData.No 3 25, codes "no 3 NoOddParty")
    ∷ (LineData.End, codes "end")
    ∷ (LineData.Regret 3, codes "regret 3")
    ∷ (LineData.Listed 0, codes "listed 0")
    ∷ (LineData.Value 4, codes "value 4")
    ∷ (LineData.Cut 18446744073709551615, codes "cut 18446744073709551615")
    ∷ (LineData.Total (negsuc 9), codes "total -10")
    ∷ (LineData.Gain 2 (pos 14), codes "gain 2 14")
    ∷ (LineData.Flow 0 2 4, codes "flow S 2 4")
    ∷ (LineData.Flow 1 4294967295 4, codes "flow 1 T 4")
    ∷ (LineData.Needs 3 (1 ∷ 2 ∷ []), codes "needs 3 1 2")
    ∷ (LineData.Needs 1 [], codes "needs 1 -")
    ∷ (LineData.Taken (2 ∷ 3 ∷ 10 ∷ []), codes "taken 2 3 10")
    ∷ (LineData.TallyLine 3 (3 ∷ 2 ∷ 3 ∷ []), codes "tally 3 3 2 3")
    ∷ (LineData.Vector (1 ∷ 2 ∷ 2 ∷ []), codes "vector 1,2,2")
    ∷ (LineData.Vector [], codes "vector -")
    ∷ (LineData.More (3 ∷ []), codes "more 3")
    ∷ (LineData.SecondGain 2 (negsuc 2), codes "gain2 2 -3")
    ∷ (LineData.SecondFlow 0 2 1, codes "flow2 S 2 1")
    ∷ (LineData.SecondFlow 1 4294967295 1, codes "flow2 1 T 1")
    ∷ (LineData.SecondValue 18446744073709551615, codes "value2 18446744073709551615")
    ∷ (LineData.SecondCut 0, codes "cut2 0")
    ∷ (LineData.SecondTotal (negsuc 1), codes "total2 -2")
    ∷ (LineData.Back 1, codes "back 1")
    ∷ (LineData.Forth 4294967294, codes "forth 4294967294") ∷ []

-- first lines, with the operands of their command
abbrev pub head_lines : List (LineData × List ℕ)
head_lines =
    (LineData.Answer (HeadData.Solve (Some Proposers)), codes "answer solve side=proposers")
    ∷ (LineData.Answer (HeadData.Solve (Some Reviewers)), codes "answer solve side=reviewers")
    ∷ (LineData.Answer HeadData.Reduced, codes "answer reduced")
    ∷ (LineData.Answer HeadData.Rotations, codes "answer rotations")
    ∷ (LineData.Answer HeadData.Pairs, codes "answer pairs")
    ∷ (LineData.Answer (HeadData.List None 2), codes "answer list limit=2")
    ∷ (LineData.Answer (HeadData.List (Some (1 ∷ 2 ∷ [])) 100), codes "answer list after=1,2 limit=100")
    ∷ (LineData.Answer (HeadData.List (Some []) 100), codes "answer list after=- limit=100")
    ∷ (LineData.Answer HeadData.Regret, codes "answer regret")
    ∷ (LineData.Answer (HeadData.Weight Ranks), codes "answer weight by=ranks")
    ∷ (LineData.Answer (HeadData.Weight Given), codes "answer weight by=given")
    ∷ (LineData.Answer HeadData.Meet, codes "answer meet")
    ∷ (LineData.Answer HeadData.Join, codes "answer join")
    ∷ (LineData.Answer (HeadData.Survey 1000000), codes "answer survey limit=1000000")
    ∷ (LineData.Answer HeadData.Check, codes "answer check")
    ∷ (LineData.Answer HeadData.Median, codes "answer median")
    ∷ (LineData.Answer HeadData.Route, codes "answer route") ∷ []

-- all of these have their texts, and are read from them
abbrev pub MarriageTexts : Type 0
MarriageTexts = HaveTexts (two_sided Marriage 1) marriage_lines × AreRead (two_sided Marriage 1) marriage_lines

-- the lines of hospitals have their texts, and are read from them
abbrev pub HospitalTexts : Type 0
HospitalTexts = HaveTexts (two_sided Hospitals 3) hospital_lines × AreRead (two_sided Hospitals 3) hospital_lines

-- the lines of roommates have theirs
abbrev pub RoomTexts : Type 0
RoomTexts = HaveTexts room room_lines × AreRead room room_lines

-- the lines of words and numbers have theirs
abbrev pub NumberTexts : Type 0
NumberTexts = HaveTexts (two_sided Marriage 1) number_lines × AreRead (two_sided Marriage 1) number_lines

-- the first lines have theirs
abbrev pub HeadTexts : Type 0
HeadTexts = HaveTexts (two_sided Marriage 1) head_lines × AreRead (two_sided Marriage 1) head_lines

-- texts of no line: fields that are out of place, names that nobody has, numbers that are written otherwise or out of
-- bounds, and operands that the command doesn't take
abbrev pub BadTexts : Type 0
BadTexts = AreRefused (two_sided Marriage 1) (
    [] ∷ codes " " ∷ codes " none" ∷ codes "none " ∷ codes "nONE" ∷ codes "none a"
    ∷ codes "pair a" ∷ codes "pair a h3" ∷ codes "pair h1 a" ∷ codes "pair  a h1" ∷ codes "pair a h1 " ∷ codes "pair a h1 h2"
    ∷ codes "first a h1/1" ∷ codes "proposer a" ∷ codes "proposer a - -" ∷ codes "rotation 1 a" ∷ codes "rotation 0 a h1"
    ∷ codes "regret 00" ∷ codes "regret -1" ∷ codes "regret 4294967296" ∷ codes "value 18446744073709551616"
    ∷ codes "needs 1" ∷ codes "needs 1 2 2" ∷ codes "needs 1 3 2" ∷ codes "needs 0 -" ∷ codes "taken 4294967295" ∷ codes "taken 0"
    ∷ codes "vector" ∷ codes "vector 1," ∷ codes "vector 1 2" ∷ codes "flow S 0 1" ∷ codes "flow 4294967295 T 1"
    ∷ codes "total -0" ∷ codes "gain 1 9223372036854775808" ∷ codes "gain 1 -9223372036854775808" ∷ codes "no 1 Other"
    ∷ codes "answer" ∷ codes "answer solve" ∷ codes "answer check limit=1" ∷ codes "answer list" ∷ codes "answer list limit=0"
    ∷ codes "answer list limit=2 after=1" ∷ codes "answer survey limit=1000001" ∷ codes "answer weight" ∷ codes "answer median limit=1"
    ∷ codes "gain2 0 1" ∷ codes "gain2 1" ∷ codes "flow2 0 1 5" ∷ codes "flow2 S 1" ∷ codes "value2 18446744073709551616" ∷ codes "cut2 -"
    ∷ codes "total2 -0" ∷ codes "back 0" ∷ codes "back 1 2" ∷ codes "forth -" ∷ codes "forth 4294967295" ∷ codes "out h1" ∷ [])

-- texts of no line of hospitals: seats without a number, or with a bad one
abbrev pub BadSeats : Type 0
BadSeats = AreRefused (two_sided Hospitals 3) (
    codes "pair a h1/1" ∷ codes "first a h1" ∷ codes "first a h1/" ∷ codes "first a h1/0" ∷ codes "first a h1/01" ∷ codes "first a h1/1/1"
    ∷ codes "first a /1" ∷ codes "first a h3/1" ∷ [])

-- texts of no line of roommates: a side, a name that nobody has, a party of nobody
abbrev pub BadRooms : Type 0
BadRooms = AreRefused room (codes "answer solve side=proposers" ∷ codes "party z" ∷ codes "party" ∷ codes "out z" ∷ codes "out x y" ∷ codes "out -" ∷ [])

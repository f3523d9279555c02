-- The form of an answer: its layouts by its head, and what each of its lines has to be on its own.
use Rattle.std.specs.Prelude.{◌≡◌, ℕ, ◌==◌, nat_lt, nat_le, Bool, true, false, List, [], ◌∷◌, map, length, Some, All, codes, slice_index_or}
use Rattle.std.specs.List.{list_all}
use Rattle.sm_agents.specs.Written.{Written}
use Rattle.sm_instance.specs.declared.inputs.Input.{Input}
use Rattle.sm_instance.specs.declared.inputs.Input.TheVariants.{Two, Room}
use Rattle.sm_seats.specs.Levels.{has_two_levels}
use Rattle.sm_report.specs.Heads.{HeadData}
use Rattle.sm_report.specs.Lines.{LineData}
use Rattle.sm_report.specs.Texts.{fields_of, text_of_line}
use Rattle.sm_report.specs.FirstBad.{IsFirstBad}
use Rattle.sm_report.specs.Sound.{seats_in_line, IsLineOf}
use Rattle.sm_check_forms.specs.declared.layouts.BlockTurn.{BlockTurn}
use Rattle.sm_check_forms.specs.Layouts.{OpeningData, Part, is_begun, is_whole}
use Rattle.sm_check_forms.specs.Layouts.Part.{One, Many, Blocks}
use Rattle.sm_check_forms.specs.Seats.{is_seat}
use Rattle.sm_check_forms.specs.declared.answer_fault.AnswerFault.{AnswerFault}
use Rattle.sm_check_forms.specs.declared.answer_fault.AnswerFault.TheVariants.{Misplaced, OutOfMemory}

-- The layouts of an answer behind its head. An answer that can't be checked has none.

-- what closes an answer
abbrev pub closing : List Part
closing = One (codes "end") ∷ []

-- blocks of so many lines, numbered from 1
abbrev pub first_turn : ℕ → BlockTurn
first_turn lines = record { lines = lines; place = 0; number = 1 }

-- any number of such blocks
abbrev pub blocks_of : ℕ → Part
blocks_of lines = Blocks (first_turn lines)

-- pairs
abbrev pub solve_layout : List Part
solve_layout = Many (codes "pair") ∷ closing

-- `none`, and the parties that show it
abbrev pub parties_layout : List Part
parties_layout = One (codes "none") ∷ Many (codes "party") ∷ closing

-- the first and the last seats, and the reduced lists of both sides
abbrev pub reduced_layout : List Part
reduced_layout = Many (codes "first") ∷ Many (codes "last") ∷ Many (codes "proposer") ∷ Many (codes "reviewer") ∷ closing

-- the first seats, and rotations with their needs
abbrev pub rotations_layout : List Part
rotations_layout = Many (codes "first") ∷ blocks_of 2 ∷ closing

-- vectors, and a last line with this word
abbrev pub list_layout : List ℕ → List Part
list_layout last = Many (codes "vector") ∷ One last ∷ []

-- the regret, and pairs
abbrev pub regret_layout : List Part
regret_layout = One (codes "regret") ∷ Many (codes "pair") ∷ closing

-- the first seats, rotations with their needs and gains, the flow, the figures of the set that is taken, and pairs; in two levels
-- also the gains, the flow and the figures by second weights
abbrev pub weight_layout : (two : Bool) → List Part
weight_layout true =
    Many (codes "first")
    ∷ blocks_of 4
    ∷ Many (codes "flow")
    ∷ Many (codes "flow2")
    ∷ One (codes "taken")
    ∷ One (codes "value")
    ∷ One (codes "cut")
    ∷ One (codes "total")
    ∷ One (codes "value2")
    ∷ One (codes "cut2")
    ∷ One (codes "total2")
    ∷ Many (codes "pair")
    ∷ closing
weight_layout false =
    Many (codes "first")
    ∷ blocks_of 3
    ∷ Many (codes "flow")
    ∷ One (codes "taken")
    ∷ One (codes "value")
    ∷ One (codes "cut")
    ∷ One (codes "total")
    ∷ Many (codes "pair")
    ∷ closing

-- the pairs of two matchings, and those that are chosen of them
abbrev pub given_layout : List Part
given_layout = Many (codes "left") ∷ Many (codes "right") ∷ Many (codes "pair") ∷ closing

-- over an instance with two sides
abbrev pub layouts_of_two : Written → HeadData → List (List Part)
layouts_of_two w (HeadData.Solve side) = solve_layout ∷ []
layouts_of_two w HeadData.Reduced = reduced_layout ∷ []
layouts_of_two w HeadData.Rotations = rotations_layout ∷ []
layouts_of_two w (HeadData.List after limit) = list_layout (codes "end") ∷ list_layout (codes "more") ∷ []
layouts_of_two w HeadData.Regret = regret_layout ∷ []
layouts_of_two w (HeadData.Weight by) = weight_layout (has_two_levels by w) ∷ []
layouts_of_two w HeadData.Meet = given_layout ∷ []
layouts_of_two w HeadData.Join = given_layout ∷ []
layouts_of_two w _ = []

-- over one of roommates: a matching, or the parties by which there is none
abbrev pub layouts_of_room : HeadData → List (List Part)
layouts_of_room (HeadData.Solve side) = solve_layout ∷ parties_layout ∷ []
layouts_of_room _ = []

-- over an instance of either kind
abbrev pub layouts_of : Input → HeadData → List (List Part)
layouts_of (Two w) head = layouts_of_two w head
layouts_of (Room persons) head = layouts_of_room head

-- a line as layouts see it: the number of a rotation behind its word
abbrev pub number_in : LineData → ℕ
number_in (LineData.Rotation i pairs) = i
number_in (LineData.Needs i needed) = i
number_in (LineData.Gain i gain) = i
number_in (LineData.SecondGain i gain) = i
number_in _ = 0

-- its first word
abbrev pub first_word : Input → LineData → List ℕ
first_word input line = slice_index_or (fields_of input line) 0 []

-- the word and the number with which it begins
abbrev pub opening_of : Input → LineData → OpeningData
opening_of input line = record { word = first_word input line; number = number_in line }

-- What a line has to be on its own.

-- a vector has one number for each proposer
abbrev pub has_one_each : Written → List ℕ → Bool
has_one_each w v = length v == length w.proposers

-- it has the seats of the instance alone, and one number for each proposer where it has a vector
abbrev pub fits_two : Written → LineData → Bool
fits_two w (LineData.Answer (HeadData.List (Some after) limit)) = has_one_each w after
fits_two w (LineData.Vector v) = has_one_each w v
fits_two w (LineData.More v) = has_one_each w v
fits_two w line = list_all (is_seat w) (seats_in_line line)

-- the lower-numbered person of a pair comes first, and the lowest of a party
abbrev pub begins_with_lowest : List ℕ → Bool
begins_with_lowest [] = false
begins_with_lowest (x ∷ xs) = list_all (nat_le x) xs

-- what a line over roommates has to be
abbrev pub fits_room : LineData → Bool
fits_room (LineData.Pair x y) = nat_lt x y
fits_room (LineData.Party persons) = begins_with_lowest persons
fits_room _ = true

-- what a line over an instance of either kind has to be
abbrev pub fits : Input → LineData → Bool
fits (Two w) line = fits_two w line
fits (Room persons) line = fits_room line

-- The form of an answer, and the first of its lines that isn't of it.

-- the lines are the first of an answer, or a whole one
abbrev pub is_placed : (List (List Part) → List OpeningData → Bool) → Input → List LineData → Bool
is_placed test input (LineData.Answer head ∷ lines) = test (layouts_of input head) (map (opening_of input) lines)
is_placed test input _ = false

-- these texts are those of lines of an instance that are the first lines of an answer, or a whole answer
pub record AreLines (test : List (List Part) → List OpeningData → Bool)
    (input : Input) (texts : List (List ℕ)) (lines : List LineData) : Type 0 where
  pub read : map (text_of_line input) lines ≡ texts
  pub right : All (IsLineOf input) lines
  pub fitting : list_all (fits input) lines ≡ true
  pub placed : is_placed test input lines ≡ true

-- the texts are the first of an answer with these lines
abbrev pub AreFirstLines : Input → List (List ℕ) → List LineData → Type 0
AreFirstLines input texts lines = AreLines is_begun input texts lines

-- the texts are those of an answer with these lines
abbrev pub AreAnswer : Input → List (List ℕ) → List LineData → Type 0
AreAnswer input texts lines = AreLines is_whole input texts lines

-- some lines are the first of an answer; there may be none
abbrev pub BeginAnAnswer : Input → List (List ℕ) → Type 0
BeginAnAnswer input [] = Unit {0}
BeginAnAnswer input (text ∷ texts) = (lines : List LineData) × AreFirstLines input (text ∷ texts) lines

-- the texts are those of an answer
abbrev pub MakeAnAnswer : Input → List (List ℕ) → Type 0
MakeAnAnswer input texts = (lines : List LineData) × AreAnswer input texts lines

-- text k is the first that isn't of the form, or the one that is missing behind the last
abbrev pub IsMisplaced : Input → List (List ℕ) → ℕ → Type 0
IsMisplaced input texts k = IsFirstBad (BeginAnAnswer input) (MakeAnAnswer input) texts k

-- why no answer is read; want of memory says nothing
abbrev pub IsAnswerFault : Input → List (List ℕ) → AnswerFault → Type 0
IsAnswerFault input texts (Misplaced k) = IsMisplaced input texts k
IsAnswerFault input texts OutOfMemory = Unit {0}

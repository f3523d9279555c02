-- Right answers, by a command's own relation, get a yes.
use Rattle.std.specs.Prelude.{ℕ, List, map, Option}
use Rattle.sm_agents.specs.Written.{AgentData, Written}
use Rattle.sm_agents.specs.Sound.{IsInstance}
use Rattle.sm_instance.specs.declared.inputs.Input.{Input}
use Rattle.sm_instance.specs.declared.inputs.Input.TheVariants.{Two, Room}
use Rattle.sm_agents.specs.declared.kinds.Measure.{Measure}
use Rattle.sm_agents.specs.declared.kinds.Side.{Side}
use Rattle.sm_theory.specs.declared.choice.Choice.TheVariants.{Better, Worse}
use Rattle.sm_report.specs.Heads.{HeadData}
use Rattle.sm_report.specs.Lines.{LineData}
use Rattle.sm_report.specs.Sound.{IsHeadOf}
use Rattle.sm_report.specs.Texts.{text_of_line}
use Rattle.sm_seats.specs.SeatEntries.{AreFewSeats}
use Rattle.sm_answer_solve.specs.Solution.{IsSolution}
use Rattle.sm_answer_rotations.specs.Reduction.{IsReduction}
use Rattle.sm_answer_rotations.specs.RotationAnswer.{IsRotationAnswer}
use Rattle.sm_answer_list.specs.ListAnswer.{IsListAnswer}
use Rattle.sm_answer_pairs.specs.RegretAnswer.{IsRegretAnswer}
use Rattle.sm_answer_weight.specs.WeightAnswer.{IsWeightAnswer}
use Rattle.sm_answer_given.specs.Chosen.{IsChosenAnswer}
use Rattle.sm_answer_roommates.specs.RoomAnswer.{IsMatched, IsUnmatchable}
use Rattle.sm_check_clauses.specs.declared.verdicts.Verdict.TheVariants as verdict
use Rattle.sm_check_clauses.specs.Judging.{IsJudged}

-- the verdict on the texts of lines is yes, whatever the number of the first of them
abbrev pub GetYes : Input → List LineData → Type 0
GetYes input lines = (first_line : ℕ) → IsJudged input (map (text_of_line input) lines) first_line verdict.Yes

-- a right answer of `solve` over an instance with two sides
abbrev pub SolveAgrees : Type 0
SolveAgrees = (w : Written) (side : Side) (lines : List LineData) → IsInstance w → IsSolution side w lines → GetYes (Two w) lines

-- one of `reduced`
abbrev pub ReducedAgrees : Type 0
ReducedAgrees = (w : Written) (lines : List LineData) → IsInstance w → IsReduction w lines → GetYes (Two w) lines

-- one of `rotations`, where the seats are few, so that every rotation has a number
abbrev pub RotationsAgree : Type 0
RotationsAgree = (w : Written) (lines : List LineData) → IsInstance w → AreFewSeats w → IsRotationAnswer w lines → GetYes (Two w) lines

-- one of `list`, behind a cursor of small numbers and up to a limit
abbrev pub ListAgrees : Type 0
ListAgrees = (w : Written) (after : Option (List ℕ)) (limit : ℕ) (lines : List LineData) → IsInstance w → IsHeadOf w.kind (HeadData.List after limit)
    → IsListAnswer after limit w lines → GetYes (Two w) lines

-- one of `regret` that isn't `none`
abbrev pub RegretAgrees : Type 0
RegretAgrees = (w : Written) (lines : List LineData) → IsInstance w → IsRegretAnswer w lines → GetYes (Two w) lines

-- one of `weight`, where the seats are few
abbrev pub WeightAgrees : Type 0
WeightAgrees = (w : Written) (by : Measure) (lines : List LineData) → IsInstance w → AreFewSeats w → IsWeightAnswer by w lines → GetYes (Two w) lines

-- those of `meet` and of `join` of the two matchings that these texts give
abbrev pub MeetAgrees : Type 0
MeetAgrees = (w : Written) (texts : List (List ℕ)) (lines : List LineData) → IsInstance w → IsChosenAnswer Better texts w lines → GetYes (Two w) lines

-- a right answer of `join` gets a yes
abbrev pub JoinAgrees : Type 0
JoinAgrees = (w : Written) (texts : List (List ℕ)) (lines : List LineData) → IsInstance w → IsChosenAnswer Worse texts w lines → GetYes (Two w) lines

-- a right answer of `solve` over roommates, where it is a matching
abbrev pub CouplesAgree : Type 0
CouplesAgree = (persons : List AgentData) (lines : List LineData) → IsMatched persons lines → GetYes (Room persons) lines

-- and where it says that there is none
abbrev pub PartiesAgree : Type 0
PartiesAgree = (persons : List AgentData) (lines : List LineData) → IsUnmatchable persons lines → GetYes (Room persons) lines

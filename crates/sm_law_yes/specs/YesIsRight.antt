-- An answer that gets a yes is a right one, by the command's own relation, but for the order of its free lines.
use Rattle.std.specs.Prelude.{◌≡◌, ◌≢◌, ℕ, List, map, Some, None}
use Rattle.std.specs.List.{slice_get}
use Rattle.sm_agents.specs.Written.{AgentData, Written}
use Rattle.sm_agents.specs.Sound.{IsInstance}
use Rattle.sm_instance.specs.declared.inputs.Input.TheVariants.{Two, Room}
use Rattle.sm_agents.specs.declared.kinds.Side.{Side}
use Rattle.sm_theory.specs.declared.choice.Choice.TheVariants.{Better, Worse}
use Rattle.sm_report.specs.Heads.{HeadData}
use Rattle.sm_report.specs.Lines.{LineData}
use Rattle.sm_report.specs.Texts.{text_of_line}
use Rattle.sm_answer_solve.specs.Solution.{IsSolution}
use Rattle.sm_answer_rotations.specs.Reduction.{IsReduction}
use Rattle.sm_answer_rotations.specs.RotationAnswer.{IsRotationAnswer}
use Rattle.sm_answer_given.specs.Chosen.{IsChosenAnswer}
use Rattle.sm_answer_given.specs.GivenText.{given_lines}
use Rattle.sm_answer_roommates.specs.RoomAnswer.{IsMatched, IsUnmatchable}
use Rattle.sm_check_clauses.specs.Said.{lefts_in, rights_in}
use Rattle.sm_cert.specs.Yes.{GetsYes}
use Rattle.sm_law_yes.specs.Reordered.{IsRightButForOrder}

-- one of `solve` over an instance with two sides
abbrev pub SolveIsRight : Type 0
SolveIsRight = (w : Written) (side : Side) (lines : List LineData) → IsInstance w
    → GetsYes (Two w) (HeadData.Solve (Some side)) lines → IsRightButForOrder (IsSolution side w) lines

-- one of `reduced`
abbrev pub ReducedIsRight : Type 0
ReducedIsRight = (w : Written) (lines : List LineData) → IsInstance w
    → GetsYes (Two w) HeadData.Reduced lines → IsRightButForOrder (IsReduction w) lines

-- one of `rotations`: so its closed sets and the stable matchings of the instance correspond
abbrev pub RotationsAreRight : Type 0
RotationsAreRight = (w : Written) (lines : List LineData) → IsInstance w
    → GetsYes (Two w) HeadData.Rotations lines → IsRightButForOrder (IsRotationAnswer w) lines

-- the text of the two matchings that an answer of `meet` or `join` says
abbrev pub said_texts : Written → List LineData → List (List ℕ)
said_texts w lines = map (text_of_line (Two w)) (given_lines (lefts_in lines) (rights_in lines))

-- one of `meet`, over the two matchings that it says
abbrev pub MeetIsRight : Type 0
MeetIsRight = (w : Written) (lines : List LineData) → IsInstance w
    → GetsYes (Two w) HeadData.Meet lines → IsRightButForOrder (IsChosenAnswer Better (said_texts w lines) w) lines

-- one of `join`
abbrev pub JoinIsRight : Type 0
JoinIsRight = (w : Written) (lines : List LineData) → IsInstance w
    → GetsYes (Two w) HeadData.Join lines → IsRightButForOrder (IsChosenAnswer Worse (said_texts w lines) w) lines

-- one of `solve` over roommates, where a matching is written
abbrev pub CouplesAreRight : Type 0
CouplesAreRight = (persons : List AgentData) (lines : List LineData) → GetsYes (Room persons) (HeadData.Solve None) lines
    → slice_get lines 1 ≢ Some LineData.Nothing → IsRightButForOrder (IsMatched persons) lines

-- and where there is said to be none
abbrev pub PartiesAreRight : Type 0
PartiesAreRight = (persons : List AgentData) (lines : List LineData) → GetsYes (Room persons) (HeadData.Solve None) lines
    → slice_get lines 1 ≡ Some LineData.Nothing → IsRightButForOrder (IsUnmatchable persons) lines

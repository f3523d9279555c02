-- The answers that get a yes are exactly the right ones, by the command's own relation, but for the order of their free lines.
use Rattle.std.specs.Prelude.{◌↔◌, ◌⊎◌, List, All, Some, None}
use Rattle.sm_agents.specs.Written.{AgentData, Written}
use Rattle.sm_agents.specs.Sound.{IsInstance, ArePersons}
use Rattle.sm_instance.specs.declared.inputs.Input.TheVariants.{Two, Room}
use Rattle.sm_agents.specs.declared.kinds.Side.{Side}
use Rattle.sm_theory.specs.declared.choice.Choice.TheVariants.{Better, Worse}
use Rattle.sm_seats.specs.SeatEntries.{AreFewSeats}
use Rattle.sm_report.specs.Heads.{HeadData}
use Rattle.sm_report.specs.Lines.{LineData}
use Rattle.sm_report.specs.Sound.{IsLineOf}
use Rattle.sm_answer_solve.specs.Solution.{IsSolution}
use Rattle.sm_answer_rotations.specs.Reduction.{IsReduction}
use Rattle.sm_answer_rotations.specs.RotationAnswer.{IsRotationAnswer}
use Rattle.sm_answer_given.specs.Chosen.{IsChosenAnswer}
use Rattle.sm_answer_roommates.specs.RoomAnswer.{IsMatched, IsUnmatchable}
use Rattle.sm_cert.specs.Yes.{GetsYes}
use Rattle.sm_law_yes.specs.Reordered.{IsRightButForOrder}
use Rattle.sm_law_yes.specs.YesIsRight.{said_texts}

-- those of `solve`
abbrev pub SolveExactly : Type 0
SolveExactly = (w : Written) (side : Side) (lines : List LineData) → IsInstance w → All (IsLineOf (Two w)) lines
    → GetsYes (Two w) (HeadData.Solve (Some side)) lines ↔ IsRightButForOrder (IsSolution side w) lines

-- those of `reduced`
abbrev pub ReducedExactly : Type 0
ReducedExactly = (w : Written) (lines : List LineData) → IsInstance w → All (IsLineOf (Two w)) lines
    → GetsYes (Two w) HeadData.Reduced lines ↔ IsRightButForOrder (IsReduction w) lines

-- those of `rotations`, where the seats are few, so that every rotation has a number
abbrev pub RotationsExactly : Type 0
RotationsExactly = (w : Written) (lines : List LineData) → IsInstance w → AreFewSeats w → All (IsLineOf (Two w)) lines
    → GetsYes (Two w) HeadData.Rotations lines ↔ IsRightButForOrder (IsRotationAnswer w) lines

-- those of `meet`, over the two matchings that they say
abbrev pub MeetExactly : Type 0
MeetExactly = (w : Written) (lines : List LineData) → IsInstance w → All (IsLineOf (Two w)) lines
    → GetsYes (Two w) HeadData.Meet lines ↔ IsRightButForOrder (IsChosenAnswer Better (said_texts w lines) w) lines

-- those of `join`
abbrev pub JoinExactly : Type 0
JoinExactly = (w : Written) (lines : List LineData) → IsInstance w → All (IsLineOf (Two w)) lines
    → GetsYes (Two w) HeadData.Join lines ↔ IsRightButForOrder (IsChosenAnswer Worse (said_texts w lines) w) lines

-- and those of `solve` over roommates, which give a matching or say that there is none
abbrev pub RoomExactly : Type 0
RoomExactly = (persons : List AgentData) (lines : List LineData) → ArePersons persons → All (IsLineOf (Room persons)) lines
    → GetsYes (Room persons) (HeadData.Solve None) lines ↔ (IsRightButForOrder (IsMatched persons) lines ⊎ IsRightButForOrder (IsUnmatchable persons) lines)

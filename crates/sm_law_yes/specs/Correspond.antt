-- What the lines of an answer of `rotations` show themselves.
use Rattle.std.specs.Prelude.{ℕ, ◌==◌, if◌then◌else◌, List, [], ◌∷◌, length, map, Option, Some, None, filter_map}
use Rattle.std.specs.List.{range_with_len}
use Rattle.sm_agents.specs.Written.{Written}
use Rattle.sm_agents.specs.Sound.{IsInstance}
use Rattle.sm_instance.specs.declared.inputs.Input.TheVariants.{Two}
use Rattle.sm_report.specs.declared.lines.Seat.{Seat}
use Rattle.sm_report.specs.Heads.{HeadData}
use Rattle.sm_report.specs.Lines.{LineData}
use Rattle.sm_answer_rotations.specs.RotationLines.{ShownRotations}
use Rattle.sm_answer_rotations.specs.RotationAnswer.{IsCorrespondence}
use Rattle.sm_cert.specs.Yes.{GetsYes}

-- the first seat that lines say of p, if they do
abbrev pub first_seat_in : List LineData → ℕ → Option Seat
first_seat_in [] p = None
first_seat_in (LineData.First q seat ∷ lines) p = if q == p then Some seat else first_seat_in lines p
first_seat_in (_ ∷ lines) p = first_seat_in lines p

-- the pairs of the rotation of a line
abbrev pub pairs_said : LineData → Option (List (ℕ × Seat))
pairs_said (LineData.Rotation i pairs) = Some pairs
pairs_said _ = None

-- the numbers of a line of needs
abbrev pub numbers_said : LineData → Option (List ℕ)
numbers_said (LineData.Needs i needed) = Some needed
numbers_said _ = None

-- the first seats of the proposers, and the rotations and what they need in the order of the lines
abbrev pub shown_in : Written → List LineData → ShownRotations
shown_in w lines = record {
  firsts = map (first_seat_in lines) (range_with_len 0 (length w.proposers));
  rotations = filter_map pairs_said lines;
  needs = filter_map numbers_said lines;
}

-- in an answer of `rotations` that gets a yes the closed sets of what its lines show and the stable matchings of the instance
-- correspond one to one
abbrev pub RotationsCorrespond : Type 0
RotationsCorrespond = (w : Written) (lines : List LineData) → IsInstance w
    → GetsYes (Two w) HeadData.Rotations lines → IsCorrespondence w (shown_in w lines)

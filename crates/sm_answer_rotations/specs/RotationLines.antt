-- The lines of the answer of `rotations`.
use Rattle.std.specs.Prelude.{ℕ, ◌+◌, List, [], ◌∷◌, ◌++◌, length, map, Option, None, slice_index_or}
use Rattle.std.specs.List.{flat_map, range_with_len}
use Rattle.std.specs.Option.{option_map}
use Rattle.sm_market.specs.Lists.{entry, agents, row}
use Rattle.sm_market.specs.Matching.{Places, held}
use Rattle.sm_report.specs.declared.lines.Seat.{Seat}
use Rattle.sm_report.specs.Heads.{HeadData}
use Rattle.sm_report.specs.Lines.{LineData}
use Rattle.sm_answer.specs.Lines.{lines_from}
use Rattle.sm_theory.specs.Chains.{rotation_at}
use Rattle.sm_seats.specs.Seating.{Seating}
use Rattle.sm_answer_rotations.specs.Reduction.{seat_of}

-- What is shown: for each proposer its first seat, if it has one; for each rotation its pairs in turn, a proposer and the
-- seat that it leaves; for each rotation the numbers of those that it needs. Shown rotations are numbered from 1.
pub record ShownRotations : Type 0 where
  pub firsts : List (Option Seat)
  pub rotations : List (List (ℕ × Seat))
  pub needs : List (List ℕ)

-- the first seat that is shown of p, if it has one
abbrev pub first_at : ShownRotations → ℕ → Option Seat
first_at shown p = slice_index_or shown.firsts p None

-- the pairs that are shown of rotation k
abbrev pub pairs_at : ShownRotations → ℕ → List (ℕ × Seat)
pairs_at shown k = slice_index_or shown.rotations k []

-- the numbers of what it is shown to need
abbrev pub needs_at : ShownRotations → ℕ → List ℕ
needs_at shown k = slice_index_or shown.needs k []

-- its lines: the first seats, and then for each rotation its pairs and its needs
abbrev pub first_seat_line : ShownRotations → ℕ → Option LineData
first_seat_line shown p = option_map (λ seat. LineData.First p seat) (first_at shown p)

-- the lines of a rotation: its pairs and its needs
abbrev pub rotation_lines : ShownRotations → ℕ → List LineData
rotation_lines shown k = LineData.Rotation (k + 1) (pairs_at shown k) ∷ LineData.Needs (k + 1) (needs_at shown k) ∷ []

-- all lines of the answer
abbrev pub shown_lines : ShownRotations → List LineData
shown_lines shown =
    LineData.Answer HeadData.Rotations ∷
    (lines_from (first_seat_line shown) 0 (length shown.firsts)
    ++ (flat_map (rotation_lines shown) (range_with_len 0 (length shown.rotations))
    ++ LineData.End ∷ []))

-- what is shown of the first matching of seats, of a chain, and of what each of its rotations needs; here rotations and
-- seats are numbered from 0
abbrev pub first_seat : Seating → Places → ℕ → Option Seat
first_seat s first p = option_map (λ i. seat_of s (entry s.market.proposers p i)) (held first.proposers p)

-- a proposer with the seat of a pair
abbrev pub seated_pair : Seating → (ℕ × ℕ) → (ℕ × Seat)
seated_pair s pair = (pair.0, seat_of s pair.1)

-- the pairs of a rotation with their seats
abbrev pub seated_rotation : Seating → List (ℕ × ℕ) → List (ℕ × Seat)
seated_rotation s rotation = map (seated_pair s) rotation

-- shown rotations are numbered from 1
abbrev pub rotation_number : ℕ → ℕ
rotation_number k = k + 1

-- the shown numbers of some rotations
abbrev pub numbers_of : List ℕ → List ℕ
numbers_of needed = map rotation_number needed

-- all that is shown of a chain
abbrev pub shown_of : Seating → Places → List (List (ℕ × ℕ)) → List (List ℕ) → ShownRotations
shown_of s first rotations needs = record {
  firsts = map (first_seat s first) (agents s.market.proposers);
  rotations = map (seated_rotation s) rotations;
  needs = map numbers_of needs;
}

-- the line of the pairs of rotation k
abbrev pub rotation_line : Seating → List (List (ℕ × ℕ)) → ℕ → LineData
rotation_line s rotations k = LineData.Rotation (k + 1) (seated_rotation s (rotation_at rotations k))

-- the line of what rotation k needs
abbrev pub needs_line : List (List ℕ) → ℕ → LineData
needs_line needs k = LineData.Needs (k + 1) (numbers_of (row needs k))

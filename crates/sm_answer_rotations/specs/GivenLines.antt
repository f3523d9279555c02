-- The lines of answers as they are given, from what a market's values hold.
use Rattle.std.specs.Prelude.{ℕ, ◌+◌, ◌-◌, Bool, true, false, List, [], ◌∷◌, ◌++◌, length, drop}
use Rattle.std.specs.List.{flat_map, range_with_len}
use Rattle.sm_answer.specs.Lines.{lines_from}
use Rattle.sm_agents.specs.declared.kinds.Side.TheVariants.{Proposers, Reviewers}
use Rattle.sm_market.specs.Lists.{Lists}
use Rattle.sm_market.specs.Matching.{Places}
use Rattle.sm_report.specs.Heads.{HeadData}
use Rattle.sm_report.specs.Lines.{LineData}
use Rattle.sm_seats.specs.Seating.{Seating}
use Rattle.sm_answer_rotations.specs.Reduction.{seat_line, proposer_line, reviewer_line}
use Rattle.sm_answer_rotations.specs.RotationLines.{rotation_line, needs_line}

-- the two lines of a rotation: that of its pairs, and that of what it needs
abbrev pub two_lines : Seating → List (List (ℕ × ℕ)) → List (List ℕ) → ℕ → List LineData
two_lines s rotations needs k = rotation_line s rotations k ∷ needs_line needs k ∷ []

-- those of the rotations from one on; without the first of them where that is given already
abbrev pub lines_of_rotations : Seating → List (List (ℕ × ℕ)) → List (List ℕ) → ℕ → List LineData
lines_of_rotations s rotations needs k = flat_map (two_lines s rotations needs) (range_with_len k (length rotations - k))

-- all lines but the first, where that is given already
abbrev pub without_first : Bool → List LineData → List LineData
without_first true lines = drop 1 lines
without_first false lines = lines

-- the lines that are left from rotation k on, halfway if its pairs are given already
abbrev pub lines_left : Bool → Seating → List (List (ℕ × ℕ)) → List (List ℕ) → ℕ → List LineData
lines_left halfway s rotations needs k = without_first halfway (lines_of_rotations s rotations needs k)

-- at most so many are left of n rotations
abbrev pub most_left : Bool → ℕ → ℕ
most_left false n = n + n
most_left true n = n + n - 1

-- both best matchings, of the proposers and of the reviewers, by their seats
abbrev pub seats_given : Seating → (first last : Places) → List LineData
seats_given s first last =
    lines_from (seat_line Proposers s first) 0 (length s.market.proposers - 0)
    ++ lines_from (seat_line Reviewers s last) 0 (length s.market.proposers - 0)

-- the reduced lists of both sides, and the end
abbrev pub rows_given : Seating → (rows : Lists) → List LineData
rows_given s rows =
    lines_from (proposer_line s rows.proposers) 0 (length rows.proposers - 0)
    ++ (lines_from (reviewer_line s rows.reviewers) 0 (length rows.reviewers - 0)
    ++ (LineData.End ∷ []))

-- the answer of `reduced`
abbrev pub reduced_given : Seating → (first last : Places) → (rows : Lists) → List LineData
reduced_given s first last rows = (LineData.Answer HeadData.Reduced ∷ []) ++ (seats_given s first last ++ rows_given s rows)

-- the answer of `rotations`
abbrev pub rotations_given : Seating → Places → List (List (ℕ × ℕ)) → List (List ℕ) → List LineData
rotations_given s first rotations needs =
    (LineData.Answer HeadData.Rotations ∷ [])
    ++ (lines_from (seat_line Proposers s first) 0 (length s.market.proposers - 0)
    ++ (lines_left false s rotations needs 0
    ++ (LineData.End ∷ [])))

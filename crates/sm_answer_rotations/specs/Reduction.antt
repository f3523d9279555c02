-- The answer of `reduced`, and the seats of an instance.
use Rattle.std.specs.Prelude.{◌≡◌, ℕ, List, [], ◌∷◌, ◌++◌, length, map, Option, Some, slice_index_or}
use Rattle.std.specs.Option.{option_map}
use Rattle.sm_market.specs.Lists.{row, entry}
use Rattle.sm_market.specs.Matching.{Places, held}
use Rattle.sm_market.specs.Reduced.{reduced_lists_of}
use Rattle.sm_agents.specs.declared.kinds.Side.{Side}
use Rattle.sm_agents.specs.declared.kinds.Side.TheVariants.{Proposers, Reviewers}
use Rattle.sm_report.specs.declared.lines.Seat.{Seat}
use Rattle.sm_report.specs.Heads.{HeadData}
use Rattle.sm_report.specs.Lines.{LineData}
use Rattle.sm_market.specs.Stable.{IsProposersBest, IsReviewersBest}
use Rattle.sm_agents.specs.Written.{Written}
use Rattle.sm_answer.specs.Lines.{lines_from}
use Rattle.sm_seats.specs.SeatMarket.{seat_market}
use Rattle.sm_seats.specs.Seating.{Seating, seating_of}

-- a seat as it is shown: its reviewer, and its number there
abbrev pub seat_of : Seating → ℕ → Seat
seat_of s k = let seat = slice_index_or s.seats k (0, 0) in record { reviewer = seat.0; number = seat.1 }

-- a proposer and its seat in the best matching of a side: its first seat where that is the proposers', its last where
-- that is the reviewers'
abbrev pub best_seat : Side → ℕ → Seat → LineData
best_seat Proposers p seat = LineData.First p seat
best_seat Reviewers p seat = LineData.Last p seat

-- the line of a proposer that has a seat
abbrev pub seat_line : Side → Seating → Places → ℕ → Option LineData
seat_line side s m p = option_map (λ i. best_seat side p (seat_of s (entry s.market.proposers p i))) (held m.proposers p)

-- every proposer has a list, and so has every seat
abbrev pub proposer_line : Seating → List (List ℕ) → ℕ → Option LineData
proposer_line s rows p = Some (LineData.ProposerList p (map (seat_of s) (row rows p)))

-- the line of a seat with its list
abbrev pub reviewer_line : Seating → List (List ℕ) → ℕ → Option LineData
reviewer_line s rows k = Some (LineData.ReviewerList (seat_of s k) (row rows k))

-- the answer of `reduced`: the first seats, the last seats, and the reduced lists of both sides
abbrev pub reduced_lines : Seating → (first last : Places) → List LineData
reduced_lines s first last =
    let l = s.market in
    let reduced = reduced_lists_of l first last in
    LineData.Answer HeadData.Reduced ∷
    (lines_from (seat_line Proposers s first) 0 (length l.proposers)
    ++ (lines_from (seat_line Reviewers s last) 0 (length l.proposers)
    ++ (lines_from (proposer_line s reduced.proposers) 0 (length l.proposers)
    ++ (lines_from (reviewer_line s reduced.reviewers) 0 (length l.reviewers)
    ++ LineData.End ∷ []))))

-- the lines are the seats in both best matchings of the seats, and the reduced lists
pub record IsReduction (w : Written) (answer : List LineData) : Type 0 where
  pub first : Places
  pub last : Places
  pub proposers_best : IsProposersBest (seat_market w) first
  pub reviewers_best : IsReviewersBest (seat_market w) last
  pub shows : answer ≡ reduced_lines (seating_of w) first last

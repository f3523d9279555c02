-- The clauses on reduced lists and on chains of rotations.
use Rattle.std.specs.Prelude.{◌≡◌, ℕ, ◌-◌, ◌<◌, ◌==◌, List, length, map, count_by, IfSome}
use Rattle.sm_agents.specs.Written.{Written}
use Rattle.sm_market.specs.Lists.{Lists, row}
use Rattle.sm_market.specs.Matching.{Places}
use Rattle.sm_market.specs.Reduced.{reduced_lists_of}
use Rattle.sm_theory.specs.Rotations.{IsNothingExposed, IsLowestExposed}
use Rattle.sm_theory.specs.Chains.{stage, AreNeedsOf}
use Rattle.sm_seats.specs.SeatMarket.{seat_market}
use Rattle.sm_report.specs.Lines.{LineData}
use Rattle.sm_check_clauses.specs.declared.verdicts.Reason.{Reason}
use Rattle.sm_check_clauses.specs.declared.verdicts.Reason.TheVariants as reason
use Rattle.sm_check_clauses.specs.Said.{rotation_in, rotations_in, needs_in, proposer_list_in, proposer_lists_in, reviewer_list_in, reviewer_lists_in, is_up_to_rotations, IsEnd, IsFirstBehind}
use Rattle.sm_check_clauses.specs.SeatMatchings.{FirstsHold, LastsHold, first_of, last_of}

-- each number below n stands once
abbrev pub HasOneEach : ℕ → List ℕ → Type 0
HasOneEach n xs = (x : ℕ) → x < n → count_by (λ y. y == x) xs ≡ 1

-- whose lists are these
abbrev pub owners : List (ℕ × List ℕ) → List ℕ
owners lists = map (λ (list : ℕ × List ℕ). list.0) lists

-- the reduced lists between the two matchings
abbrev pub reduced_of : Written → List LineData → Lists
reduced_of w lines = reduced_lists_of (seat_market w) (first_of w lines) (last_of w lines)

-- an agent's list is its reduced one
abbrev pub IsRowOf : List (List ℕ) → ℕ × List ℕ → Type 0
IsRowOf rows list = list.1 ≡ row rows list.0

-- each list is the reduced one, and at the end each agent has one
pub record ListsAreRight (w : Written) (above : List LineData) (line : LineData) : Type 0 where
  pub proposer : IfSome (proposer_list_in w line) (IsRowOf (reduced_of w above).proposers)
  pub reviewer : IfSome (reviewer_list_in w line) (IsRowOf (reduced_of w above).reviewers)
  pub all_proposers : IsEnd line → HasOneEach (length (seat_market w).proposers) (owners (proposer_lists_in w above))
  pub all_reviewers : IsEnd line → HasOneEach (length (seat_market w).reviewers) (owners (reviewer_lists_in w above))

-- the clause on lists
abbrev pub ListsHold : Written → List LineData → LineData → Reason → Type 0
ListsHold w above line reason.WrongList = ListsAreRight w above line
ListsHold w above line _ = Unit {0}

-- `reduced`
abbrev pub ReducedHold : Written → List LineData → LineData → Reason → Type 0
ReducedHold w above line why = FirstsHold w above line why × LastsHold w above line why × ListsHold w above line why

-- the matching to which rotations lead from the first one
abbrev pub reached : Written → List LineData → Places
reached w lines = stage (seat_market w) (first_of w lines) (rotations_in w lines) (length (rotations_in w lines))

-- the number of the last rotation
abbrev pub last_rotation : Written → List LineData → ℕ
last_rotation w lines = length (rotations_in w lines) - 1

-- each rotation is the next one, and none is missing. A rotation needs earlier ones alone, so what it needs is tried on the
-- rotations above.
abbrev pub ChainHolds : Written → List LineData → LineData → Reason → Type 0
ChainHolds w above line reason.NotExposed = IfSome (rotation_in w line) (IsLowestExposed (seat_market w) (reached w above))
ChainHolds w above line reason.RotationMissing =
    IsFirstBehind is_up_to_rotations above line → IsNothingExposed (seat_market w) (reached w above)
ChainHolds w above line reason.WrongNeeds =
    IfSome (needs_in line) (AreNeedsOf (seat_market w) (rotations_in w above) (last_rotation w above))
ChainHolds w above line _ = Unit {0}

-- `rotations`
abbrev pub RotationsHold : Written → List LineData → LineData → Reason → Type 0
RotationsHold w above line why = FirstsHold w above line why × ChainHolds w above line why

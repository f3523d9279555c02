-- What is kept of an answer of `reduced`.
use Rattle.std.specs.Prelude.{◌≡◌, ℕ, true, List}
use Rattle.std.specs.List.{list_all}
use Rattle.sm_agents.specs.Written.{Written}
use Rattle.sm_market.specs.Lists.{Lists, IsMarket}
use Rattle.sm_market.specs.Matching.{Places}
use Rattle.sm_market.specs.Stable.{IsStable, IsProposersBest, IsReviewersBest}
use Rattle.sm_seats.specs.SeatMarket.{seat_market}
use Rattle.sm_seats.specs.Counted.{first_seats_of}
use Rattle.sm_report.specs.Lines.{LineData}
use Rattle.sm_check_clauses.specs.declared.verdicts.Reason.{Reason}
use Rattle.sm_check_clauses.specs.declared.verdicts.Reason.TheVariants as reason
use Rattle.sm_check_clauses.specs.Said.{firsts_in, lasts_in, is_up_to_firsts, is_up_to_lasts}
use Rattle.sm_check_clauses.specs.SeatMatchings.{first_of, last_of, AreSeatPairs}
use Rattle.sm_check_answers.specs.ListsKept.{AreListsOf}
use Rattle.sm_check_clauses.specs.declared.seat_pairs.SeatPairs.{SeatPairs}
use Rattle.sm_check_answers.specs.declared.seat_lists.SeatLists.{SeatLists}
use Rattle.sm_check_answers.specs.declared.reduced.Group.{Group}
use Rattle.sm_check_answers.specs.declared.reduced.Group.TheVariants as group

-- the clauses on a matching that has to be the proposers' best
abbrev pub IsTriedFirst : Lists → Places → Reason → Type 0
IsTriedFirst l first reason.Blocked = IsStable l first
IsTriedFirst l first reason.NotBest = IsProposersBest l first
IsTriedFirst l first _ = Unit {0}

-- among the last seats; the first ones were tried
pub record AreLastsGoing (w : Written) (above : List LineData) : Type 0 where
  pub up_to : list_all is_up_to_lasts above ≡ true
  pub first_best : IsProposersBest (seat_market w) (first_of w above)

-- behind the last seats, which were tried too
pub record AreListsGoing (w : Written) (above : List LineData) (lists : SeatLists) : Type 0 where
  pub first_best : IsProposersBest (seat_market w) (first_of w above)
  pub last_best : IsReviewersBest (seat_market w) (last_of w above)
  pub are_lists : AreListsOf w above lists

-- where the next line stands: among the first seats, among the last ones, or among the lists
abbrev pub IsGroupAt : Written → List LineData → Group → Type 0
IsGroupAt w above group.First = list_all is_up_to_firsts above ≡ true
IsGroupAt w above group.Last = AreLastsGoing w above
IsGroupAt w above (group.Lists lists) = AreListsGoing w above lists

-- of the lines of an answer: the pairs of both matchings, and the group of lines that goes on
pub record IsReducedOf (w : Written) (above : List LineData) (first last : SeatPairs) (going : Group) : Type 0 where
  pub firsts : AreSeatPairs (seat_market w) (firsts_in w above) first
  pub lasts : AreSeatPairs (seat_market w) (lasts_in w above) last
  pub at : IsGroupAt w above going

pub record IsReducedKept (w : Written) (market : Lists) (firsts : List ℕ) (above : List LineData) (first last : SeatPairs) (going : Group) : Type 0 where
  pub market_is : market ≡ seat_market w
  pub is_market : IsMarket (seat_market w)
  pub firsts_are : firsts ≡ first_seats_of w
  pub kept : IsReducedOf w above first last going

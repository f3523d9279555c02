-- The clauses on matchings that an answer writes by pairs of a proposer and a seat.
use Rattle.std.specs.Prelude.{◌≡◌, ℕ, ◌<◌, ◌==◌, not, false, List, length, map, None, IfSome, slice_index_or}
use Rattle.std.specs.Option.{option_map}
use Rattle.sm_agents.specs.Written.{Written}
use Rattle.sm_market.specs.Lists.{Lists, row, place_of, agents}
use Rattle.sm_market.specs.Matching.{Places}
use Rattle.sm_market.specs.Stable.{IsStable, IsProposersBest, IsReviewersBest}
use Rattle.sm_market.specs.PairingFaults.{AreHeld}
use Rattle.sm_theory.specs.Lattice.{with_proposers}
use Rattle.sm_seats.specs.SeatMarket.{seat_market}
use Rattle.sm_report.specs.Lines.{LineData}
use Rattle.sm_check_clauses.specs.declared.verdicts.Reason.{Reason}
use Rattle.sm_check_clauses.specs.declared.verdicts.Reason.TheVariants as reason
use Rattle.sm_check_clauses.specs.Said.{first_in, firsts_in, last_in, lasts_in, is_up_to_firsts, is_up_to_lasts, IsFirstBehind}
use Rattle.sm_holding.specs.Held.{partner_in, times_second}
use Rattle.sm_check_clauses.specs.declared.seat_pairs.SeatPairs.{SeatPairs}

-- a pair may stand behind those before it: each lists the other, and neither is in one of them
pub record IsFreeSeat (l : Lists) (before : List (ℕ × ℕ)) (pair : ℕ × ℕ) : Type 0 where
  pub acceptable : place_of l.proposers pair.0 pair.1 < length (row l.proposers pair.0)
  pub proposer_free : partner_in before pair.0 ≡ None
  pub seat_free : times_second before pair.1 ≡ 0

-- the matching of pairs
abbrev pub seat_places_in : Lists → List (ℕ × ℕ) → Places
seat_places_in l pairs =
    with_proposers l (map (λ p. option_map (place_of l.proposers p) (partner_in pairs p)) (agents l.proposers))

-- these places are of the matching that the pairs make, and these seats stand in them
pub record AreSeatPairs (l : Lists) (pairs : List (ℕ × ℕ)) (kept : SeatPairs) : Type 0 where
  pub places : kept.places.items ≡ (seat_places_in l pairs).proposers
  pub held : AreHeld l kept.places.items
  pub seats_each : length kept.taken.items ≡ length l.reviewers
  pub taken : (r : ℕ) → r < length l.reviewers → slice_index_or kept.taken.items r false ≡ not (times_second pairs r == 0)

-- the matchings that the first and the last seats write
abbrev pub first_of : Written → List LineData → Places
first_of w lines = seat_places_in (seat_market w) (firsts_in w lines)

-- the matching that the last seats write
abbrev pub last_of : Written → List LineData → Places
last_of w lines = seat_places_in (seat_market w) (lasts_in w lines)

-- the first seats are the proposers' best matching of the seats, which is tried at the first line behind them
abbrev pub FirstsHold : Written → List LineData → LineData → Reason → Type 0
FirstsHold w above line reason.NotAMatching = IfSome (first_in w line) (IsFreeSeat (seat_market w) (firsts_in w above))
FirstsHold w above line reason.Blocked = IsFirstBehind is_up_to_firsts above line → IsStable (seat_market w) (first_of w above)
FirstsHold w above line reason.NotBest =
    IsFirstBehind is_up_to_firsts above line → IsProposersBest (seat_market w) (first_of w above)
FirstsHold w above line _ = Unit {0}

-- the last seats are the reviewers' best one
abbrev pub LastsHold : Written → List LineData → LineData → Reason → Type 0
LastsHold w above line reason.NotAMatching = IfSome (last_in w line) (IsFreeSeat (seat_market w) (lasts_in w above))
LastsHold w above line reason.Blocked = IsFirstBehind is_up_to_lasts above line → IsStable (seat_market w) (last_of w above)
LastsHold w above line reason.NotBest =
    IsFirstBehind is_up_to_lasts above line → IsReviewersBest (seat_market w) (last_of w above)
LastsHold w above line _ = Unit {0}

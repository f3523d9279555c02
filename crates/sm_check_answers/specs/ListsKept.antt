-- What is kept of the reduced lists that an answer writes.
use Rattle.std.specs.Prelude.{◌≡◌, ℕ, ◌<◌, ◌==◌, ◌++◌, ◌∷◌, [], List, length, min, count_by, slice_index_or}
use Rattle.sm_agents.specs.Written.{Written}
use Rattle.sm_market.specs.Lists.{Lists}
use Rattle.sm_market.specs.Matching.{Places}
use Rattle.sm_market.specs.Pairing.{IsPairingOf}
use Rattle.sm_seats.specs.SeatMarket.{seat_market}
use Rattle.sm_report.specs.Lines.{LineData}
use Rattle.sm_check_clauses.specs.Chain.{owners}
use Rattle.sm_check_clauses.specs.Said.{proposer_lists_in, reviewer_lists_in}
use Rattle.sm_check_clauses.specs.SeatMatchings.{first_of, last_of}
use Rattle.sm_check_answers.specs.declared.seat_lists.SeatLists.{SeatLists}

-- how often each of so many agents is an owner; from the second time on all count alike
pub record AreTimes (count : ℕ) (agents : List ℕ) (times : List ℕ) : Type 0 where
  pub one_each : length times ≡ count
  pub told : (a : ℕ) → a < count → slice_index_or times a 0 ≡ min 2 (count_by (λ y. y == a) agents)

-- lists of these proposers and seats between two matchings
pub record AreLists (l : Lists) (from to : Places) (proposers seats : List ℕ) (lists : SeatLists) : Type 0 where
  pub first : IsPairingOf l lists.first
  pub first_is : lists.first.places ≡ from
  pub last : IsPairingOf l lists.last
  pub last_is : lists.last.places ≡ to
  pub proposer_times : AreTimes (length l.proposers) proposers lists.proposers.items
  pub seat_times : AreTimes (length l.reviewers) seats lists.seats.items

-- those of the lines of an answer, and of one more line
abbrev pub AreListsOf : Written → List LineData → SeatLists → Type 0
AreListsOf w above lists =
    AreLists (seat_market w) (first_of w above) (last_of w above)
    (owners (proposer_lists_in w above)) (owners (reviewer_lists_in w above)) lists

-- those of the lines of an answer with one more
abbrev pub AreListsBehind : Written → List LineData → LineData → SeatLists → Type 0
AreListsBehind w above line lists =
    AreLists (seat_market w) (first_of w above) (last_of w above)
    (owners (proposer_lists_in w (above ++ line ∷ []))) (owners (reviewer_lists_in w (above ++ line ∷ []))) lists

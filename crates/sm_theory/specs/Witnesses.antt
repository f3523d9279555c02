-- Small markets whose complete chains and closed sets are known, so that the laws are not about nothing.
use Rattle.std.specs.Prelude.{◌≡◌, ℕ, true, false, List, [], ◌∷◌, None, Some}
use Rattle.sm_market.specs.Lists.{Lists, IsMarket}
use Rattle.sm_market.specs.Matching.{Places}
use Rattle.sm_market.specs.Stable.{IsReviewersBest}
use Rattle.sm_theory.specs.Chains.{stage, rotation_at, IsPrintedChain, MovesItBefore, MakesItPass}
use Rattle.sm_theory.specs.ClosedSets.{IsClosed, IsReady}
use Rattle.sm_theory.specs.Weights.{regret_of}

-- three proposers with the lists 0 1 2, 1 2 0 and 2 0 1, who are liked in the opposite order
abbrev pub three_cycle : Lists
three_cycle = record {
  proposers = (0 ∷ 1 ∷ 2 ∷ []) ∷ (1 ∷ 2 ∷ 0 ∷ []) ∷ (2 ∷ 0 ∷ 1 ∷ []) ∷ [];
  reviewers = (1 ∷ 2 ∷ 0 ∷ []) ∷ (2 ∷ 0 ∷ 1 ∷ []) ∷ (0 ∷ 1 ∷ 2 ∷ []) ∷ [];
}

-- in its proposers' best each proposer has its first choice
abbrev pub three_cycle_first : Places
three_cycle_first = record { proposers = Some 0 ∷ Some 0 ∷ Some 0 ∷ []; reviewers = Some 2 ∷ Some 2 ∷ Some 2 ∷ [] }

-- its complete chain: each proposer moves on by one place, twice
abbrev pub three_cycle_chain : List (List (ℕ × ℕ))
three_cycle_chain = ((0, 0) ∷ (1, 1) ∷ (2, 2) ∷ []) ∷ ((0, 1) ∷ (1, 2) ∷ (2, 0) ∷ []) ∷ []

-- the greater of the two ranks of the pair at each place
abbrev pub three_cycle_ranks : List (List ℕ)
three_cycle_ranks = (3 ∷ 2 ∷ 3 ∷ []) ∷ (3 ∷ 2 ∷ 3 ∷ []) ∷ (3 ∷ 2 ∷ 3 ∷ []) ∷ []

-- the regrets of its three stable matchings
abbrev pub Regrets : Type 0
Regrets = (regret_of three_cycle three_cycle_ranks three_cycle_first ≡ 3)
    × (regret_of three_cycle three_cycle_ranks (stage three_cycle three_cycle_first three_cycle_chain 1) ≡ 2)
    × (regret_of three_cycle three_cycle_ranks (stage three_cycle three_cycle_first three_cycle_chain 2) ≡ 3)

-- its complete chain has two rotations, and the second needs the first, which moves a proposer to where it moves it from
abbrev pub ThreeCycle : Type 0
ThreeCycle = IsMarket three_cycle × IsPrintedChain three_cycle three_cycle_first three_cycle_chain
    × MovesItBefore (rotation_at three_cycle_chain 0) (rotation_at three_cycle_chain 1)
    × IsReviewersBest three_cycle (stage three_cycle three_cycle_first three_cycle_chain 2) × Regrets

-- a market whose second rotation moves proposer 2 past reviewer 0, which the first rotation makes pass it
abbrev pub passed_seat : Lists
passed_seat = record {
  proposers = (0 ∷ 1 ∷ []) ∷ (1 ∷ 0 ∷ []) ∷ (2 ∷ 0 ∷ 3 ∷ []) ∷ (3 ∷ 2 ∷ []) ∷ [];
  reviewers = (1 ∷ 2 ∷ 0 ∷ []) ∷ (0 ∷ 1 ∷ []) ∷ (3 ∷ 2 ∷ []) ∷ (2 ∷ 3 ∷ []) ∷ [];
}

-- in its proposers' best each proposer has its first choice
abbrev pub passed_seat_first : Places
passed_seat_first = record { proposers = Some 0 ∷ Some 0 ∷ Some 0 ∷ Some 0 ∷ []; reviewers = Some 2 ∷ Some 1 ∷ Some 1 ∷ Some 1 ∷ [] }

-- its complete chain: proposers 0 and 1 exchange their reviewers, and then 2 and 3
abbrev pub passed_seat_chain : List (List (ℕ × ℕ))
passed_seat_chain = ((0, 0) ∷ (1, 1) ∷ []) ∷ ((2, 2) ∷ (3, 3) ∷ []) ∷ []

-- it needs the first in the second way alone, and the closed sets are the empty one, that of the first rotation, and
-- that of both; the second alone isn't closed
abbrev pub PassedSeat : Type 0
PassedSeat = IsMarket passed_seat × IsPrintedChain passed_seat passed_seat_first passed_seat_chain
    × MakesItPass passed_seat (rotation_at passed_seat_chain 0) (rotation_at passed_seat_chain 1)
    × (¬ MovesItBefore (rotation_at passed_seat_chain 0) (rotation_at passed_seat_chain 1))
    × IsClosed passed_seat passed_seat_chain (false ∷ false ∷ [])
    × IsClosed passed_seat passed_seat_chain (true ∷ false ∷ [])
    × IsClosed passed_seat passed_seat_chain (true ∷ true ∷ [])
    × (¬ IsClosed passed_seat passed_seat_chain (false ∷ true ∷ []))

-- proposer 2 and reviewer 2 stay unmatched, and reviewer 2 is the last whom proposer 0 lists
abbrev pub left_over : Lists
left_over = record {
  proposers = (0 ∷ 1 ∷ 2 ∷ []) ∷ (1 ∷ 0 ∷ []) ∷ (1 ∷ []) ∷ [];
  reviewers = (1 ∷ 0 ∷ []) ∷ (0 ∷ 1 ∷ 2 ∷ []) ∷ (0 ∷ []) ∷ [];
}

-- its proposers' best: proposers 0 and 1 have their first choices
abbrev pub left_over_first : Places
left_over_first = record { proposers = Some 0 ∷ Some 0 ∷ None ∷ []; reviewers = Some 1 ∷ Some 1 ∷ None ∷ [] }

-- its complete chain: proposers 0 and 1 exchange their reviewers
abbrev pub left_over_chain : List (List (ℕ × ℕ))
left_over_chain = ((0, 0) ∷ (1, 1) ∷ []) ∷ []

-- its reviewers' best: proposers 0 and 1 have their second choices
abbrev pub left_over_last : Places
left_over_last = record { proposers = Some 1 ∷ Some 1 ∷ None ∷ []; reviewers = Some 0 ∷ Some 0 ∷ None ∷ [] }

-- its chain ends with its only rotation, since an unmatched reviewer is no successor
abbrev pub LeftOver : Type 0
LeftOver = IsMarket left_over × IsPrintedChain left_over left_over_first left_over_chain
    × (stage left_over left_over_first left_over_chain 1 ≡ left_over_last) × IsReviewersBest left_over left_over_last
    × IsReady left_over left_over_chain (false ∷ []) 0

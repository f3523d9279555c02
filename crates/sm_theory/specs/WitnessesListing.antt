-- A small market with four stable matchings, and listings of them in two orders.
use Rattle.std.specs.Prelude.{◌≡◌, ℕ, ◌<◌, Bool, true, false, List, [], ◌∷◌, None, Some}
use Rattle.sm_market.specs.Lists.{Lists, IsMarket}
use Rattle.sm_market.specs.Matching.{Places}
use Rattle.sm_theory.specs.Choices.{meet_of, join_of}
use Rattle.sm_theory.specs.Rotations.{DoesMove, reviewer_before, reviewer_after}
use Rattle.sm_theory.specs.Chains.{stage, rotation_at, IsPrintedChain, IsNeededBy}
use Rattle.sm_theory.specs.ClosedSets.{matching_of, IsReady}
use Rattle.sm_theory.specs.Vectors.{IsBefore, IsOrder, AreLevels, IsAllowedVector}
use Rattle.sm_theory.specs.Listings.{IsNextListed, IsNoneBehind, IsListing}

-- twice two proposers with opposed lists
abbrev pub two_pairs : Lists
two_pairs = record {
  proposers = (0 ∷ 1 ∷ []) ∷ (1 ∷ 0 ∷ []) ∷ (2 ∷ 3 ∷ []) ∷ (3 ∷ 2 ∷ []) ∷ [];
  reviewers = (1 ∷ 0 ∷ []) ∷ (0 ∷ 1 ∷ []) ∷ (3 ∷ 2 ∷ []) ∷ (2 ∷ 3 ∷ []) ∷ [];
}

-- its proposers' best: each proposer has its first choice
abbrev pub two_pairs_first : Places
two_pairs_first = record { proposers = Some 0 ∷ Some 0 ∷ Some 0 ∷ Some 0 ∷ []; reviewers = Some 1 ∷ Some 1 ∷ Some 1 ∷ Some 1 ∷ [] }

-- its complete chain: the first two proposers exchange their reviewers, and then the last two
abbrev pub two_pairs_chain : List (List (ℕ × ℕ))
two_pairs_chain = ((0, 0) ∷ (1, 1) ∷ []) ∷ ((2, 2) ∷ (3, 3) ∷ []) ∷ []

-- the ranks, from 1, and that of being unmatched
abbrev pub two_pairs_ranks : List (List ℕ)
two_pairs_ranks = (1 ∷ 2 ∷ 3 ∷ []) ∷ (1 ∷ 2 ∷ 3 ∷ []) ∷ (1 ∷ 2 ∷ 3 ∷ []) ∷ (1 ∷ 2 ∷ 3 ∷ []) ∷ []

-- the ranks of the matching in which all four have their first choices
abbrev pub both_best : List ℕ
both_best = 1 ∷ 1 ∷ 1 ∷ 1 ∷ []

-- the ranks where the last two have their second choices
abbrev pub second_worst : List ℕ
second_worst = 1 ∷ 1 ∷ 2 ∷ 2 ∷ []

-- the ranks where the first two have their second choices
abbrev pub first_worst : List ℕ
first_worst = 2 ∷ 2 ∷ 1 ∷ 1 ∷ []

-- the ranks where all four have their second choices
abbrev pub both_worst : List ℕ
both_worst = 2 ∷ 2 ∷ 2 ∷ 2 ∷ []

-- the two matchings in which one pair of proposers has its first choices and the other its second
abbrev pub two_pairs_of : List Bool → Places
two_pairs_of set = matching_of two_pairs two_pairs_first two_pairs_chain set

-- neither rotation needs the other, so each is ready where the other is in
abbrev pub TwoApart : Type 0
TwoApart = ((i j : ℕ) → i < 2 → j < 2 → ¬ IsNeededBy two_pairs (rotation_at two_pairs_chain i) (rotation_at two_pairs_chain j))
    × IsReady two_pairs two_pairs_chain (true ∷ false ∷ []) 1
    × IsReady two_pairs two_pairs_chain (false ∷ true ∷ []) 0
    × (¬ IsReady two_pairs two_pairs_chain (true ∷ false ∷ []) 0)

-- the meet of the two matchings in the middle is the first one of all, and their join the last
abbrev pub MeetAndJoin : Type 0
MeetAndJoin = (meet_of two_pairs (two_pairs_of (true ∷ false ∷ [])) (two_pairs_of (false ∷ true ∷ [])) ≡ two_pairs_first)
    × (join_of two_pairs (two_pairs_of (true ∷ false ∷ [])) (two_pairs_of (false ∷ true ∷ [])) ≡ stage two_pairs two_pairs_first two_pairs_chain 2)

-- the whole listing in the order of the proposers, the one that begins with proposer 2, and two behind a cursor
abbrev pub Listed : Type 0
Listed = IsListing (IsBefore (0 ∷ 1 ∷ 2 ∷ 3 ∷ [])) (IsAllowedVector two_pairs two_pairs_ranks [] []) None 9 (both_best ∷ second_worst ∷ first_worst ∷ both_worst ∷ []) false
    × IsListing (IsBefore (2 ∷ 3 ∷ 0 ∷ 1 ∷ [])) (IsAllowedVector two_pairs two_pairs_ranks [] []) None 4 (both_best ∷ first_worst ∷ second_worst ∷ both_worst ∷ []) false
    × IsListing (IsBefore (0 ∷ 1 ∷ 2 ∷ 3 ∷ [])) (IsAllowedVector two_pairs two_pairs_ranks [] []) (Some both_best) 2 (second_worst ∷ first_worst ∷ []) true

-- the order of the proposers is one, and a list in which one of them stands twice is none
abbrev pub Orders : Type 0
Orders = IsOrder 4 (0 ∷ 1 ∷ 2 ∷ 3 ∷ []) × (¬ IsOrder 4 (0 ∷ 1 ∷ 2 ∷ 2 ∷ []))

-- behind the first vector the second is next, and none is behind the last
abbrev pub NextOnes : Type 0
NextOnes = IsNextListed (IsBefore (0 ∷ 1 ∷ 2 ∷ 3 ∷ [])) (IsAllowedVector two_pairs two_pairs_ranks [] []) (Some both_best) second_worst
    × IsNoneBehind (IsBefore (0 ∷ 1 ∷ 2 ∷ 3 ∷ [])) (IsAllowedVector two_pairs two_pairs_ranks [] []) (Some both_worst)

-- the first rotation moves proposer 0 from reviewer 0 to reviewer 1, and proposer 2 it doesn't move
abbrev pub OneMove : Type 0
OneMove = DoesMove (rotation_at two_pairs_chain 0) 0
    × (reviewer_before (rotation_at two_pairs_chain 0) 0 ≡ 0)
    × (reviewer_after (rotation_at two_pairs_chain 0) 0 ≡ 1)
    × (¬ DoesMove (rotation_at two_pairs_chain 0) 2)

-- all that is said of this market
abbrev pub TwoPairs : Type 0
TwoPairs = IsMarket two_pairs × IsPrintedChain two_pairs two_pairs_first two_pairs_chain × AreLevels two_pairs two_pairs_ranks
    × TwoApart × MeetAndJoin × Listed × Orders × NextOnes × OneMove

-- Two small markets whose stable matchings are known, so that the definitions hold of something.
use Rattle.std.specs.Prelude.{◌≡◌, ◌⊎◌, [], ◌∷◌, None, Some}
use Rattle.sm_market.specs.Lists.{Lists, IsMarket}
use Rattle.sm_market.specs.Matching.{Places}
use Rattle.sm_market.specs.Stable.{IsStable, IsProposersBest, IsReviewersBest}
use Rattle.sm_market.specs.Reduced.{reduced_lists_of}

-- two proposers and two reviewers who all list each other: each agent is the last choice of its own first choice
abbrev pub two_by_two : Lists
two_by_two = record { proposers = (0 ∷ 1 ∷ []) ∷ (1 ∷ 0 ∷ []) ∷ []; reviewers = (1 ∷ 0 ∷ []) ∷ (0 ∷ 1 ∷ []) ∷ [] }

-- each proposer has its first choice, or its second
abbrev pub first_choices : Places
first_choices = record { proposers = Some 0 ∷ Some 0 ∷ []; reviewers = Some 1 ∷ Some 1 ∷ [] }

-- each proposer has its second choice
abbrev pub second_choices : Places
second_choices = record { proposers = Some 1 ∷ Some 1 ∷ []; reviewers = Some 0 ∷ Some 0 ∷ [] }

-- the first of these is the proposers' best and the second the reviewers' best, there is no other stable matching, and no
-- pair is taken out of the lists
abbrev pub TwoByTwo : Type 0
TwoByTwo = IsMarket two_by_two × IsProposersBest two_by_two first_choices × IsReviewersBest two_by_two second_choices
    × ((m : Places) → IsStable two_by_two m → (m ≡ first_choices) ⊎ (m ≡ second_choices))
    × (reduced_lists_of two_by_two first_choices second_choices ≡ two_by_two)

-- one reviewer on both proposers' lists, and one on none
abbrev pub two_for_one : Lists
two_for_one = record { proposers = (0 ∷ []) ∷ (0 ∷ []) ∷ []; reviewers = (0 ∷ 1 ∷ []) ∷ [] ∷ [] }

-- proposer 0 has reviewer 0, and proposer 1 and reviewer 1 are unmatched
abbrev pub one_pair : Places
one_pair = record { proposers = Some 0 ∷ None ∷ []; reviewers = Some 0 ∷ None ∷ [] }

-- this is stable, of the reduced lists only its pair is left, and nobody's being unmatched blocks
abbrev pub TwoForOne : Type 0
TwoForOne = IsMarket two_for_one × IsStable two_for_one one_pair
    × (reduced_lists_of two_for_one one_pair one_pair ≡ record { proposers = (0 ∷ []) ∷ [] ∷ []; reviewers = (0 ∷ []) ∷ [] ∷ [] })

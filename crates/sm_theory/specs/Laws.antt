-- The laws of the lattice, of rotations and of closed sets. Each is the contract of a function of `laws`.
use Rattle.std.specs.Prelude.{◌≡◌, ℕ, ◌<◌, ◌≤◌, ◌⊎◌, ◌↔◌, min, max, Bool, List, Some, length, slice_index, ℤ, ◌+ℤ◌}
use Rattle.sm_market.specs.Lists.{Lists, row, entry, place_of, IsMarket, reversed_lists}
use Rattle.sm_market.specs.Matching.{Places, held, standing, reversed}
use Rattle.sm_market.specs.Stable.{IsStable, IsProposersBest, IsReviewersBest}
use Rattle.sm_theory.specs.Choices.{meet_of, join_of}
use Rattle.sm_theory.specs.Rotations.{proposer_at, target_at, IsExposed, IsNoneBelow, eliminated}
use Rattle.sm_theory.specs.Chains.{rotation_at, IsCompleteChain, IsNeededBy}
use Rattle.sm_theory.specs.ClosedSets.{IsClosed, matching_of, Correspondence, IsReady, IsSameCycle}
use Rattle.sm_theory.specs.Vectors.{level_vector_of, IsAllowed, IsWithin}
use Rattle.sm_theory.specs.Weights.{weight_of, gain_of_set}

-- the meet of two stable matchings is stable, and each proposer stands in it at the better of its two places
-- (Gusfield and Irving 1989, theorem 1.3.2)
abbrev pub MeetIsStable : Type 0
MeetIsStable = (l : Lists) (m n : Places) → IsMarket l → IsStable l m → IsStable l n
    → IsStable l (meet_of l m n) × ((p : ℕ) → standing l.proposers (meet_of l m n).proposers p ≡ min (standing l.proposers m.proposers p) (standing l.proposers n.proposers p))

-- and so is their join, in which each stands at the worse of its two
abbrev pub JoinIsStable : Type 0
JoinIsStable = (l : Lists) (m n : Places) → IsMarket l → IsStable l m → IsStable l n
    → IsStable l (join_of l m n) × ((p : ℕ) → standing l.proposers (join_of l m n).proposers p ≡ max (standing l.proposers m.proposers p) (standing l.proposers n.proposers p))

-- of a pair in one stable matching and not in the other, one agent prefers the first matching and the other the second
-- (Gusfield and Irving 1989, theorem 1.3.1)
abbrev pub PairIsDivided : Type 0
PairIsDivided = (l : Lists) (m n : Places) → IsMarket l → IsStable l m → IsStable l n
    → (p i : ℕ) → held m.proposers p ≡ Some i → ¬ (held n.proposers p ≡ Some i)
    → let r = entry l.proposers p i in
    ((i < standing l.proposers n.proposers p) × (standing l.reviewers n.reviewers r < standing l.reviewers m.reviewers r))
    ⊎ ((standing l.proposers n.proposers p < i) × (standing l.reviewers m.reviewers r < standing l.reviewers n.reviewers r))

-- for an exposed rotation and any stable matching, either all proposers of the rotation have their reviewer or better,
-- or all have the next reviewer or worse (Gusfield and Irving 1989, section 2.5)
abbrev pub Dichotomy : Type 0
Dichotomy = (l : Lists) (m n : Places) (rotation : List (ℕ × ℕ)) → IsMarket l → IsStable l m → IsStable l n → IsExposed l m rotation
    → ((i : ℕ) → i < length rotation → let p = proposer_at rotation i in standing l.proposers n.proposers p ≤ standing l.proposers m.proposers p)
    ⊎ ((i : ℕ) → i < length rotation → let p = proposer_at rotation i in place_of l.proposers p (target_at rotation i) ≤ standing l.proposers n.proposers p)

-- eliminating an exposed rotation leaves a stable matching (Gusfield and Irving 1989, section 2.5)
abbrev pub EliminationIsStable : Type 0
EliminationIsStable = (l : Lists) (m : Places) (rotation : List (ℕ × ℕ)) → IsMarket l → IsStable l m → IsExposed l m rotation → IsStable l (eliminated l m rotation)

-- a stable matching at which no rotation is exposed is the reviewers' best; each reviewer then stands as well as in any
-- (Gusfield and Irving 1989, section 2.5)
abbrev pub NothingExposed : Type 0
NothingExposed = (l : Lists) (m : Places) → IsMarket l → IsStable l m → ((rotation : List (ℕ × ℕ)) → ¬ IsExposed l m rotation)
    → IsReviewersBest l m × ((n : Places) → IsStable l n → (r : ℕ) → standing l.reviewers m.reviewers r ≤ standing l.reviewers n.reviewers r)

-- a stable matching at which none is exposed once the sides are exchanged is the proposers' best
abbrev pub NothingExposedBack : Type 0
NothingExposedBack = (l : Lists) (m : Places) → IsMarket l → IsStable l m → ((rotation : List (ℕ × ℕ)) → ¬ IsExposed (reversed_lists l) (reversed m) rotation)
    → IsProposersBest l m

-- a stable matching at which a rotation is exposed isn't the reviewers' best, and with the sides exchanged it isn't the
-- proposers' best (Gusfield and Irving 1989, section 2.5)
abbrev pub ExposedIsNotBest : Type 0
ExposedIsNotBest = (l : Lists) (m : Places) (rotation : List (ℕ × ℕ)) → IsMarket l → IsStable l m
    → (IsExposed l m rotation → ¬ IsReviewersBest l m)
    × (IsExposed (reversed_lists l) (reversed m) rotation → ¬ IsProposersBest l m)

-- where no exposed rotation has a proposer below their number, none is exposed
abbrev pub NoneBelowAll : Type 0
NoneBelowAll = (l : Lists) (m : Places) → IsMarket l → IsStable l m → IsNoneBelow l m (length l.proposers) → (rotation : List (ℕ × ℕ)) → ¬ IsExposed l m rotation

-- there is no more than one best matching for each side
abbrev pub BestIsUnique : Type 0
BestIsUnique = (l : Lists) (m n : Places) → IsMarket l
    → (IsProposersBest l m → IsProposersBest l n → m ≡ n) × (IsReviewersBest l m → IsReviewersBest l n → m ≡ n)

-- a predecessor stands earlier in the chain
abbrev pub PredecessorIsEarlier : Type 0
PredecessorIsEarlier = (l : Lists) (first : Places) (rotations : List (List (ℕ × ℕ))) (i j : ℕ) → IsMarket l → IsCompleteChain l first rotations
    → i < length rotations → j < length rotations → IsNeededBy l (rotation_at rotations i) (rotation_at rotations j) → i < j

-- the closed sets of a complete chain and the stable matchings correspond one to one, whichever exposed rotation each
-- turn of the chain takes (Irving and Leather 1986; Gusfield and Irving 1989, theorem 2.5.7)
abbrev pub SetsAreMatchings : Type 0
SetsAreMatchings = (l : Lists) (first : Places) (rotations : List (List (ℕ × ℕ))) → IsMarket l → IsCompleteChain l first rotations → Correspondence l first rotations

-- at the matching of a closed set a rotation of the chain is exposed exactly where it is outside and all its
-- predecessors are inside
abbrev pub ExposedWhereReady : Type 0
ExposedWhereReady = (l : Lists) (first : Places) (rotations : List (List (ℕ × ℕ))) (set : List Bool) (k : ℕ) → IsMarket l → IsCompleteChain l first rotations
    → IsClosed l rotations set → k < length rotations
    → IsExposed l (matching_of l first rotations set) (rotation_at rotations k) ↔ IsReady l rotations set k

-- each rotation that is exposed at some stable matching is one of the chain
-- (Gusfield and Irving 1989, section 2.5)
abbrev pub AllInTheChain : Type 0
AllInTheChain = (l : Lists) (first : Places) (rotations : List (List (ℕ × ℕ))) (m : Places) (rotation : List (ℕ × ℕ)) → IsMarket l → IsCompleteChain l first rotations
    → IsStable l m → IsExposed l m rotation
    → (k : ℕ) × (k < length rotations) × IsSameCycle rotation (rotation_at rotations k)

-- the stable matchings within level bounds and conditions are closed under meet
abbrev pub MeetKeepsBounds : Type 0
MeetKeepsBounds = (l : Lists) (levels : List (List ℕ)) (low high : List ℕ) (forced forbidden : List (ℕ × ℕ)) (m n : Places) → IsMarket l
    → IsStable l m → IsStable l n → IsWithin l levels low high m → IsWithin l levels low high n
    → IsAllowed levels forced forbidden m → IsAllowed levels forced forbidden n
    → IsWithin l levels low high (meet_of l m n) × IsAllowed levels forced forbidden (meet_of l m n)

-- the weight of a closed set's matching is that of the first one and the gains of the members
-- (Irving, Leather and Gusfield 1987)
abbrev pub WeightIsSumOfGains : Type 0
WeightIsSumOfGains = (l : Lists) (first : Places) (rotations : List (List (ℕ × ℕ))) (set : List Bool) (weights : List (List ℤ)) → IsMarket l → IsCompleteChain l first rotations
    → IsClosed l rotations set
    → weight_of l weights (matching_of l first rotations set) ≡ weight_of l weights first +ℤ gain_of_set l weights rotations set

-- where the places of one level on a proposer's list name reviewers with equal lists, as seats of one hospital have, a level
-- vector determines its stable matching
abbrev pub LevelsDetermine : Type 0
LevelsDetermine = (l : Lists) (levels : List (List ℕ)) (m n : Places) → IsMarket l
    → ((p i j : ℕ) → i < length (row l.proposers p) → j < length (row l.proposers p) → slice_index (row levels p) i ≡ slice_index (row levels p) j
    → row l.reviewers (entry l.proposers p i) ≡ row l.reviewers (entry l.proposers p j))
    → IsStable l m → IsStable l n → level_vector_of l levels m ≡ level_vector_of l levels n → m ≡ n

-- The laws of stable matchings that the crates above stand on. Each is the contract of a function of `laws`.
use Rattle.std.specs.Prelude.{◌≡◌, ℕ, ◌<◌, ◌≤◌, Some, None}
use Rattle.sm_market.specs.Lists.{Lists, entry, IsMarket}
use Rattle.sm_market.specs.Matching.{Places, held, standing}
use Rattle.sm_market.specs.Stable.{IsStable, IsProposersBest, IsReviewersBest}

-- Opposition of interests: where a proposer has r in the first matching and prefers that to the second, r prefers
-- the second, and the same for a reviewer (Gusfield and Irving 1989, theorem 1.3.1).
abbrev pub OppositionOfInterests : Type 0
OppositionOfInterests = (l : Lists) (m n : Places) → IsMarket l → IsStable l m → IsStable l n
    → ((p i : ℕ) → held m.proposers p ≡ Some i → i < standing l.proposers n.proposers p
    → let r = entry l.proposers p i in standing l.reviewers n.reviewers r < standing l.reviewers m.reviewers r)
    × ((r k : ℕ) → held m.reviewers r ≡ Some k → k < standing l.reviewers n.reviewers r
    → let p = entry l.reviewers r k in standing l.proposers n.proposers p < standing l.proposers m.proposers p)

-- The same agents are matched in all stable matchings (Gusfield and Irving 1989, theorem 1.4.2).
abbrev pub SameAgents : Type 0
SameAgents = (l : Lists) (m n : Places) → IsMarket l → IsStable l m → IsStable l n
    → ((p : ℕ) → held m.proposers p ≡ None → held n.proposers p ≡ None)
    × ((r : ℕ) → held m.reviewers r ≡ None → held n.reviewers r ≡ None)

-- In the proposers' best every reviewer stands as badly as in any stable matching
-- (Gusfield and Irving 1989, theorem 1.2.3).
abbrev pub ProposersBestIsWorst : Type 0
ProposersBestIsWorst = (l : Lists) (m n : Places) → IsMarket l → IsProposersBest l m → IsStable l n
    → (r : ℕ) → standing l.reviewers n.reviewers r ≤ standing l.reviewers m.reviewers r

-- In the reviewers' best every reviewer stands as well as in any stable matching.
abbrev pub ReviewersBestIsBest : Type 0
ReviewersBestIsBest = (l : Lists) (m n : Places) → IsMarket l → IsReviewersBest l m → IsStable l n
    → (r : ℕ) → standing l.reviewers m.reviewers r ≤ standing l.reviewers n.reviewers r

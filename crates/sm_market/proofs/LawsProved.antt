-- The laws of specs/Laws.antt, from those of CoreLaws.
use Rattle.std.proofs.Common.{◌≡◌, ℕ, arith, inl, inr, Some}
use Rattle.sm_market.specs.Lists.{Lists, entry, IsMarket}
use Rattle.sm_market.specs.Matching.{Places, held, standing}
use Rattle.sm_market.specs.Stable.{IsStable}
use Rattle.sm_market.specs.Laws.{OppositionOfInterests, SameAgents, ProposersBestIsWorst, ReviewersBestIsBest}
use Rattle.sm_market.proofs.Core.{Pair, easy, easy', pair_at, pair_at'}
use Rattle.sm_market.proofs.CoreLaws.{same_matched, same_matched', opposed}
use Rattle.sm_market.proofs.PlaceLemmas.{place_of-entry}
use Rattle.sm_market.proofs.Bridge.{sides_of, stand_of, stable_of, held_none, standing-some, standing-none}
use Rattle.sm_lists.proofs.Counting.{lt_or_le}

-- whom an agent finds at its place is its partner
pub pair_held : {l : Lists} (h : IsMarket l) {m : Places} → IsStable l m → (p i : ℕ) → held m.proposers p ≡ Some i → Pair (sides_of l h) (stand_of l m) p (entry l.proposers p i)
pair_held {l} h {m} s p i e =
    let at = standing-some l.proposers m.proposers p i e in
    let on = s.matching.proposers.on_list p i e in
    let here = place_of-entry h.proposers p i on in
    pair_at p (entry l.proposers p i) (stable_of h s).fit (omega arith) (omega arith)

-- a reviewer and whom it holds are partners
pub pair_held' : {l : Lists} (h : IsMarket l) {m : Places} → IsStable l m → (r k : ℕ) → held m.reviewers r ≡ Some k → Pair (sides_of l h) (stand_of l m) (entry l.reviewers r k) r
pair_held' {l} h {m} s r k e =
    let at = standing-some l.reviewers m.reviewers r k e in
    let on = s.matching.reviewers.on_list r k e in
    let here = place_of-entry h.reviewers r k on in
    pair_at' (entry l.reviewers r k) r (stable_of h s).fit (omega arith) (omega arith)

-- who prefers its partner in one stable matching to what it has in another has a partner that prefers the other
pub opposition_of_interests : OppositionOfInterests
opposition_of_interests l m n h hm hn = (
  (λ p i e less. easy (stable_of h hn) (pair_held h hm p i e) (omega (arith, standing-some l.proposers m.proposers p i e))),
  (λ r k e less. easy' (stable_of h hn) (pair_held' h hm r k e) (omega (arith, standing-some l.reviewers m.reviewers r k e))),
)

-- the same agents are matched in all stable matchings
pub same_agents : SameAgents
same_agents l m n h hm hn = (
  (λ p e. held_none hn.matching.proposers p (elim (lt_or_le (standing l.proposers n.proposers p) ((sides_of l h).len p)) [
    | inl less ↦ absurd (omega (arith, same_matched (stable_of h hn) (stable_of h hm) p less, standing-none l.proposers m.proposers p e))
    | inr more ↦ more
  ])),
  (λ r e. held_none hn.matching.reviewers r (elim (lt_or_le (standing l.reviewers n.reviewers r) ((sides_of l h).len' r)) [
    | inl less ↦ absurd (omega (arith, same_matched' (stable_of h hn) (stable_of h hm) r less, standing-none l.reviewers m.reviewers r e))
    | inr more ↦ more
  ])),
)

-- the proposers' best is the reviewers' worst
pub proposers_best_is_worst : ProposersBestIsWorst
proposers_best_is_worst l m n h hm hn r = opposed (stable_of h hm.stable) (stable_of h hn) (hm.best n hn) r

-- in the reviewers' best each reviewer is at its best
pub reviewers_best_is_best : ReviewersBestIsBest
reviewers_best_is_best l m n h hm hn r = opposed (stable_of h hn) (stable_of h hm.stable) (hm.worst n hn) r

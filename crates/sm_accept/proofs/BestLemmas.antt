-- The best matchings of the two sides.
use Rattle.std.proofs.Common.{◌≡◌, arith, sym}
use Rattle.sm_market.specs.Lists.{Lists, IsMarket, reversed_lists}
use Rattle.sm_market.specs.Matching.{Places, reversed, IsMatching}
use Rattle.sm_market.specs.Stable.{IsProposersBest, IsReviewersBest}
use Rattle.sm_market.proofs.Bridge.{IsMarket-reversed, IsMatching-reversed, IsStable-reversed, stable_equal}
use Rattle.sm_market.proofs.LawsProved.{proposers_best_is_worst}
use Rattle.sm_market.proofs.PairingLemmas.{reviewers_same}
use Rattle.sm_accept.specs.Bests.{IsWorstOfReviewers, IsBestOfReviewers}

-- in the proposers' best each reviewer is at its worst
pub worst_of_reviewers : {l : Lists} {m : Places} → IsMarket l → IsProposersBest l m → IsWorstOfReviewers l m
worst_of_reviewers {l} {m} h x = record { worst = λ n s r. proposers_best_is_worst l m n h x s r }

-- where the proposers hold what the reviewers hold in the proposers' best with the sides exchanged, so do the reviewers
same_reversed : {l : Lists} {m best : Places} → IsProposersBest (reversed_lists l) best → IsMatching l m → m.proposers ≡ best.reviewers → reversed best ≡ m
same_reversed {l} {m} {best} x f same =
    let theirs : m.reviewers ≡ best.proposers = reviewers_same {l = l} {n = reversed best} f (IsMatching-reversed x.stable.matching) same in
    λ i. record { proposers = sym same i; reviewers = sym theirs i }

-- the proposers' best with the sides exchanged is the reviewers' best
pub reviewers_best_of : {l : Lists} {m best : Places} → IsMarket l → IsProposersBest (reversed_lists l) best → IsMatching l m → m.proposers ≡ best.reviewers → IsReviewersBest l m
reviewers_best_of {l} {m} {best} h x f same = rw (same_reversed x f same) at (let back : IsReviewersBest l (reversed best) = record {
  stable = IsStable-reversed (IsMarket-reversed h) x.stable;
  worst = λ n s p. proposers_best_is_worst (reversed_lists l) best (reversed n) (IsMarket-reversed h) x (IsStable-reversed h s) p;
} in back)

-- and each reviewer is at its best in it
pub best_of_reviewers : {l : Lists} {m best : Places} → IsMarket l → IsProposersBest (reversed_lists l) best → IsMatching l m → m.proposers ≡ best.reviewers → IsBestOfReviewers l m
best_of_reviewers {l} {m} {best} h x f same = rw (same_reversed x f same) at (let back : IsBestOfReviewers l (reversed best) = record {
  best = λ n s r. x.best (reversed n) (IsStable-reversed h s) r;
} in back)

-- there is one proposers' best, and one reviewers' best
pub proposers_best_once : {l : Lists} {m n : Places} → IsMarket l → IsProposersBest l m → IsProposersBest l n → m ≡ n
proposers_best_once {m = m} {n = n} h x y = stable_equal h x.stable y.stable (λ p. omega (arith, x.best n y.stable p, y.best m x.stable p))

-- there is one reviewers' best
pub reviewers_best_once : {l : Lists} {m n : Places} → IsMarket l → IsReviewersBest l m → IsReviewersBest l n → m ≡ n
reviewers_best_once {m = m} {n = n} h x y = stable_equal h x.stable y.stable (λ p. omega (arith, x.worst n y.stable p, y.worst m x.stable p))

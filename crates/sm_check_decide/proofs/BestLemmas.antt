-- Where nothing is exposed a stable matching is the best of a side.
use Rattle.sm_market.specs.Lists.{Lists, IsMarket, reversed_lists}
use Rattle.sm_market.specs.Matching.{Places, reversed}
use Rattle.sm_market.specs.Stable.{IsStable, IsProposersBest, IsReviewersBest}
use Rattle.sm_theory.specs.Rotations.{IsNothingExposed}
use Rattle.sm_theory.proofs.Chains.Rotations.{nothing_exposed, nothing_exposed_back}
use Rattle.sm_theory.proofs.Chains.Best.{exposed_is_not_best}

module _ {l : Lists} (h : IsMarket l) {m : Places} (s : IsStable l m) where
  -- a stable matching in which no rotation is exposed is the reviewers' best
  pub best_of_nothing : IsNothingExposed l m → IsReviewersBest l m
  best_of_nothing w = (nothing_exposed l m h s w.none).0

  -- in the reviewers' best no rotation is exposed
  pub nothing_of_best : IsReviewersBest l m → IsNothingExposed l m
  nothing_of_best best = record { none = λ other x. (exposed_is_not_best l m other h s).0 x best }

  -- one in which none is exposed with the sides exchanged is the proposers' best
  pub best_of_nothing_back : IsNothingExposed (reversed_lists l) (reversed m) → IsProposersBest l m
  best_of_nothing_back w = nothing_exposed_back l m h s w.none

  -- in the proposers' best none is exposed with the sides exchanged
  pub nothing_of_best_back : IsProposersBest l m → IsNothingExposed (reversed_lists l) (reversed m)
  nothing_of_best_back best = record { none = λ other x. (exposed_is_not_best l m other h s).1 x best }

-- A matching at which a rotation is exposed is no best one.
use Rattle.std.proofs.Common.{ℕ, ◌<◌, arith, List}
use Rattle.sm_market.specs.Lists.{Lists, IsMarket, reversed_lists}
use Rattle.sm_market.specs.Matching.{Places, standing, reversed}
use Rattle.sm_market.specs.Stable.{IsStable}
use Rattle.sm_market.proofs.Bridge.{stable_of, IsMarket-reversed, IsStable-reversed}
use Rattle.sm_market.proofs.CoreLaws.{opposed}
use Rattle.sm_theory.specs.Rotations.{IsExposed, eliminated, proposer_at}
use Rattle.sm_theory.proofs.Core.Rotation.{goes_down}
use Rattle.sm_theory.proofs.Bridge.Rotation.{exposed_of, elim_of, eliminated_stable}
use Rattle.sm_theory.specs.Laws.{ExposedIsNotBest}

-- eliminating a rotation is worse for its first proposer
first_is_worse : (l : Lists) (m : Places) (rotation : List (ℕ × ℕ)) (h : IsMarket l) (s : IsStable l m) (x : IsExposed l m rotation)
    → standing l.proposers m.proposers (proposer_at rotation 0) < standing l.proposers (eliminated l m rotation).proposers (proposer_at rotation 0)
first_is_worse l m rotation h s x = goes_down (stable_of h s).fit (exposed_of h s.matching x) (elim_of h s.matching x) 0 x.not_empty

-- a stable matching at which a rotation is exposed isn't the best of the side that gains by it
pub exposed_is_not_best : ExposedIsNotBest
exposed_is_not_best l m rotation h s = (
  (λ x best. omega (arith, first_is_worse l m rotation h s x, best.worst (eliminated l m rotation) (eliminated_stable h s x) (proposer_at rotation 0))),
  (λ x best.
      let k = eliminated (reversed_lists l) (reversed m) rotation in
      let back : IsStable l (reversed k) = IsStable-reversed (IsMarket-reversed h) (eliminated_stable (IsMarket-reversed h) (IsStable-reversed h s) x) in
      let worse = first_is_worse (reversed_lists l) (reversed m) rotation (IsMarket-reversed h) (IsStable-reversed h s) x in
      omega (arith, worse, opposed (stable_of h s) (stable_of h back) (best.best (reversed k) back) (proposer_at rotation 0))),
)

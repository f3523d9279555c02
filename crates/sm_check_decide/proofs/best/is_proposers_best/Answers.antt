use Rattle.sm_check_decide.proofs.BestLemmas.{best_of_nothing_back, nothing_of_best_back}
use Rattle.sm_check_decide.proofs.best.is_proposers_best.Goals as goal

pub returns : goal.returns
returns c =
    let h = c.proposers.ensures.market in (
      (λ b. best_of_nothing_back h c.requires.stable (rw (c.in_ok-swapped.ensures, c.in_ok-back.ensures.places) at (c.is_nothing_exposed.ensures.decided.0 b))),
      (λ best. c.is_nothing_exposed.ensures.decided.1 (rw (c.in_ok-swapped.ensures, c.in_ok-back.ensures.places) (nothing_of_best_back h c.requires.stable best))),
    )

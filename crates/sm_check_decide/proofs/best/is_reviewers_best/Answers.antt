use Rattle.sm_check_decide.proofs.BestLemmas.{best_of_nothing, nothing_of_best}
use Rattle.sm_check_decide.proofs.best.is_reviewers_best.Goals as goal

pub returns : goal.returns
returns c =
    let h = c.is_nothing_exposed.ensures.market in (
      (λ b. best_of_nothing h c.requires.stable (c.is_nothing_exposed.ensures.decided.0 b)),
      (λ best. c.is_nothing_exposed.ensures.decided.1 (nothing_of_best h c.requires.stable best)),
    )

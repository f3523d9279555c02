use Rattle.std.proofs.Common.{ap, ◌∙◌}
use Rattle.sm_market.specs.Matching.{Places}
use Rattle.sm_market.specs.Reduced.{reduced_lists_of}
use Rattle.sm_lists.proofs.ResultLemmas.{IfOk-both}
use Rattle.sm_accept.proofs.BestLemmas.{proposers_best_once, reviewers_best_once}
use Rattle.sm_accept.proofs.ReducedLemmas.{keeps_stable_pairs}
use Rattle.sm_accept.proofs.reduced.reduced_lists.Goals as goal

pub returns-clause-reduced : goal.returns-clause-reduced
returns-clause-reduced c = IfOk-both c.reduced_between.result _ _ _
    (λ reduced is market first last f g. is
    ∙ ap (λ (m : Places). reduced_lists_of c.args.market.now m c.in_ok-last.last.places) (proposers_best_once market c.in_ok-first.ensures.best f)
    ∙ ap (λ (m : Places). reduced_lists_of c.args.market.now first m) (reviewers_best_once market c.in_ok-last.ensures.worst g))
    c.reduced_between.ensures.reduced c.reduced_between.ensures.market

pub returns-clause-keeps : goal.returns-clause-keeps
returns-clause-keeps c = IfOk-both c.reduced_between.result _ _ _
    (λ reduced is market. rw is (keeps_stable_pairs market c.in_ok-first.ensures.best c.in_ok-last.ensures.worst))
    c.reduced_between.ensures.reduced c.reduced_between.ensures.market

use Rattle.std.proofs.Common.{◌∙◌, ap, length}
use Rattle.sm_market.specs.Lists.{Lists}
use Rattle.sm_market.specs.Vectors.{rows_of}
use Rattle.sm_poset.specs.Posets.{RotationPoset}
use Rattle.sm_answer_rotations.proofs.ConditionLemmas.{forced_named, forbidden_named}
use Rattle.sm_answer_pairs.proofs.RankLemmas.{are_ranks_of}
use Rattle.sm_answer_pairs.proofs.regret.find_regret.Goals as goal

pub min_regret-requires-clause-ranks : goal.min_regret-requires-clause-ranks
min_regret-requires-clause-ranks c =
    are_ranks_of c.args.instance.now c.args.seats.now (ap (λ (poset : RotationPoset). poset.lists) c.in_ok-least.ensures.poset ∙ c.in_ok-poset.ensures) (c.in_ok-least.ensures.levels ∙ c.in_ok-levels.ensures) (ap rows_of c.deref.ensures.value ∙ c.in_ok-ranks.ensures)

pub min_regret-requires-clause-forced : goal.min_regret-requires-clause-forced
min_regret-requires-clause-forced c =
    let count = ap (λ (poset : RotationPoset). length poset.lists.proposers) c.in_ok-least.ensures.poset ∙ ap (λ (l : Lists). length l.proposers) c.in_ok-poset.ensures ∙ c.requires.seating.proposers in
    rw (c.in_ok-conditions.ensures.forced, count) (forced_named c.in_ok-conditions.ensures.instance)

pub min_regret-requires-clause-forbidden : goal.min_regret-requires-clause-forbidden
min_regret-requires-clause-forbidden c =
    let count = ap (λ (poset : RotationPoset). length poset.lists.proposers) c.in_ok-least.ensures.poset ∙ ap (λ (l : Lists). length l.proposers) c.in_ok-poset.ensures ∙ c.requires.seating.proposers in
    rw (c.in_ok-conditions.ensures.forbidden, count) (forbidden_named c.in_ok-conditions.ensures.instance)

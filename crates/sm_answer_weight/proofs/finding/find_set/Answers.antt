use Rattle.std.proofs.Common.{◌∙◌, ap, length, sym, subst, Result, Ok, Err}
use Rattle.std.specs.Result.{IfOk}
use Rattle.sm_market.specs.Vectors.{rows_of}
use Rattle.sm_instance.specs.Ranks.{pair_weight}
use Rattle.sm_market.specs.Lists.{Lists}
use Rattle.sm_weight.specs.Sizes.{weights_in}
use Rattle.sm_answer_rotations.proofs.ConditionLemmas.{forced_named, forbidden_named}
use Rattle.sm_seats.specs.Levels.{pair_second_by, seconds_by}
use Rattle.sm_seats.specs.PlaceWeights.{AreLight}
use Rattle.sm_seats.proofs.PlaceLemmas.{are_weights}
use Rattle.sm_seats.proofs.LevelLemmas.{none_second}
use Rattle.sm_seats.proofs.SecondLemmas.{gain_none}
use Rattle.sm_answer_weight.proofs.SizeLemmas.{light_seconds}
use Rattle.sm_answer_weight.proofs.finding.find_set.Goals as goal

pub lightest-requires-clause-weights : goal.lightest-requires-clause-weights
lightest-requires-clause-weights c =
    let read = ap weights_in c.deref-then-has_two_levels-3.ensures.value in
    are_weights (pair_weight c.args.by c.args.instance.now) c.args.seats.now c.requires.market (read ∙ c.in_ok-weights.ensures.weights) (subst AreLight (sym read) c.in_ok-weights.ensures.light)

pub lightest-requires-clause-seconds : goal.lightest-requires-clause-seconds
lightest-requires-clause-seconds c =
    let read = ap weights_in c.deref-then-has_two_levels-4.ensures.value in
    are_weights (pair_second_by c.args.by c.args.instance.now) c.args.seats.now c.requires.market (read ∙ c.in_ok-seconds.ensures.seconds) (subst AreLight (sym read) c.in_ok-seconds.ensures.light)

pub lightest-requires-clause-forced : goal.lightest-requires-clause-forced
lightest-requires-clause-forced c =
    let count = ap (λ (l : Lists). length l.proposers) c.requires.market ∙ c.requires.seating.proposers in
    rw (c.in_ok-conditions.ensures.forced, count) (forced_named c.in_ok-conditions.ensures.instance)

pub lightest-requires-clause-forbidden : goal.lightest-requires-clause-forbidden
lightest-requires-clause-forbidden c =
    let count = ap (λ (l : Lists). length l.proposers) c.requires.market ∙ c.requires.seating.proposers in
    rw (c.in_ok-conditions.ensures.forbidden, count) (forbidden_named c.in_ok-conditions.ensures.instance)

pub lightest_by_one_sum-requires-clause-weights : goal.lightest_by_one_sum-requires-clause-weights
lightest_by_one_sum-requires-clause-weights c =
    let read = ap weights_in c.deref-else-has_two_levels-2.ensures.value in
    are_weights (pair_weight c.args.by c.args.instance.now) c.args.seats.now c.requires.market (read ∙ c.in_ok-weights.ensures.weights) (subst AreLight (sym read) c.in_ok-weights.ensures.light)

pub lightest_by_one_sum-requires-clause-forced : goal.lightest_by_one_sum-requires-clause-forced
lightest_by_one_sum-requires-clause-forced c =
    let count = ap (λ (l : Lists). length l.proposers) c.requires.market ∙ c.requires.seating.proposers in
    rw (c.in_ok-conditions.ensures.forced, count) (forced_named c.in_ok-conditions.ensures.instance)

pub lightest_by_one_sum-requires-clause-forbidden : goal.lightest_by_one_sum-requires-clause-forbidden
lightest_by_one_sum-requires-clause-forbidden c =
    let count = ap (λ (l : Lists). length l.proposers) c.requires.market ∙ c.requires.seating.proposers in
    rw (c.in_ok-conditions.ensures.forbidden, count) (forbidden_named c.in_ok-conditions.ensures.instance)

any_ok : {X E : Type 0} {A : Type 0} → A → (r : Result X E) → IfOk r (λ x. A)
any_ok a (Ok x) = a
any_ok a (Err e) = tt

pub returns-clause-second_light : goal.returns-clause-second_light
returns-clause-second_light c = any_ok (light_seconds c.args.by c.args.instance.now c.args.seats.now (sym c.has_two_levels.ensures ∙ c.if-has_two_levels.false)) c.lightest_by_one_sum.result

pub returns-clause-found : goal.returns-clause-found
returns-clause-found c =
    let by = c.args.by in
    let w = c.args.instance.now in
    let s = c.args.seats.now in
    let one = sym c.has_two_levels.ensures ∙ c.if-has_two_levels.false in
    let levels = ap rows_of c.deref-else-has_two_levels.ensures.value ∙ c.in_ok-levels.ensures in
    let weights = ap weights_in c.deref-else-has_two_levels-2.ensures.value ∙ c.in_ok-weights.ensures.weights in
    let found = c.lightest_by_one_sum.ensures (seconds_by by w s) (gain_none (pair_second_by by w) (none_second by w one) s c.args.poset.now.lists) in
    rw (levels, weights, c.in_ok-conditions.ensures.forced, c.in_ok-conditions.ensures.forbidden) at found

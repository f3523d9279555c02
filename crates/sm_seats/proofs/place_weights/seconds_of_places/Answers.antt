use Rattle.std.proofs.Common.{◌≡◌, ◌∙◌, sym, subst, List, ℤ}
use Rattle.std.specs.Result.{IfOk}
use Rattle.sm_theory.specs.Sizes.{weights_in}
use Rattle.sm_seats.proofs.LevelLemmas.{in_two_levels, in_one_level}
use Rattle.sm_seats.proofs.place_weights.seconds_of_places.Goals as goal

pub returns-then-has_two_levels-clause-seconds : goal.returns-then-has_two_levels-clause-seconds
returns-then-has_two_levels-clause-seconds c =
    subst (λ (x : List (List ℤ)). IfOk c.weigh_places.result (λ v. weights_in v.items ≡ x))
    (in_two_levels c.args.by c.args.instance.now c.args.seats.now (sym c.has_two_levels.ensures ∙ c.if-has_two_levels.true)) c.weigh_places.ensures.weights

pub returns-else-has_two_levels-clause-seconds : goal.returns-else-has_two_levels-clause-seconds
returns-else-has_two_levels-clause-seconds c =
    subst (λ (x : List (List ℤ)). IfOk c.weigh_places-else-has_two_levels.result (λ v. weights_in v.items ≡ x))
    (in_one_level c.args.by c.args.instance.now c.args.seats.now (sym c.has_two_levels.ensures ∙ c.if-has_two_levels.false)) c.weigh_places-else-has_two_levels.ensures.weights

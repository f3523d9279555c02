use Rattle.std.proofs.Common.{◌≡◌, sym, subst}
use Rattle.std.specs.Result.{IfOk}
use Rattle.sm_agents.specs.declared.kinds.Measure.{Measure}
use Rattle.sm_seats.specs.Correspondence.{weights_of}
use Rattle.sm_theory.specs.Sizes.{weights_in}
use Rattle.sm_seats.proofs.place_weights.weights_of_places.Goals as goal

pub returns-in-Ranks-clause-weights : goal.returns-in-Ranks-clause-weights
returns-in-Ranks-clause-weights c =
    subst (λ (by : Measure). IfOk c.ranks_of_places.result (λ v. weights_in v.items ≡ weights_of by c.args.instance.now c.args.seats.now)) (sym c.in-Ranks.is) c.ranks_of_places.ensures.weights

pub returns-in-Given-clause-weights : goal.returns-in-Given-clause-weights
returns-in-Given-clause-weights c =
    subst (λ (by : Measure). IfOk c.weigh_places.result (λ v. weights_in v.items ≡ weights_of by c.args.instance.now c.args.seats.now)) (sym c.in-Given.is)
    c.weigh_places.ensures.weights

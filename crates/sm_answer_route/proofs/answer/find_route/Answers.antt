use Rattle.std.proofs.Common.{◌∙◌, ap}
use Rattle.sm_seats.specs.Seating.{Seating}
use Rattle.sm_answer_route.proofs.RouteLemmas.{set_closed, steps_are}
use Rattle.sm_answer_route.proofs.answer.find_route.Goals as goal

pub route-requires-clause-left : goal.route-requires-clause-left
route-requires-clause-left c = set_closed c.in_ok-poset.poset (c.in_ok-poset.ensures ∙ ap (λ (s : Seating). s.market) c.requires.seats) c.in_ok-left.ensures

pub route-requires-clause-right : goal.route-requires-clause-right
route-requires-clause-right c = set_closed c.in_ok-poset.poset (c.in_ok-poset.ensures ∙ ap (λ (s : Seating). s.market) c.requires.seats) c.in_ok-right.ensures

pub returns : goal.returns
returns c =
    let lists = c.in_ok-poset.ensures ∙ ap (λ (s : Seating). s.market) c.requires.seats in
    record { market = lists; route = steps_are c.in_ok-poset.poset lists c.in_ok-left.ensures c.in_ok-right.ensures c.in_ok-steps.ensures.steps c.in_ok-steps.ensures.shortest }

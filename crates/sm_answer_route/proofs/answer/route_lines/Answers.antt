use Rattle.std.specs.List.{All}
use Rattle.std.proofs.Common.{ap, ◌∙◌, sym}
use Rattle.sm_answer.proofs.AnswerLemmas.{same_some, same_is, joined_some, joined_is, given_right, given_some}
use Rattle.sm_market.specs.Vectors.{rows_of}
use Rattle.sm_theory.specs.Values.{rotations_of}
use Rattle.sm_seats.specs.Seating.{Seating}
use Rattle.sm_answer_rotations.proofs.RotationLemmas.{are_shown, values_few, values_each, small_needs, seats_named}
use Rattle.sm_answer_route.specs.RouteAnswer.{IsStepNumbered}
use Rattle.sm_answer_route.proofs.RouteLemmas.{route_found, route_given, route_right, route_sound}
use Rattle.sm_answer_route.proofs.StepLemmas.{steps_numbered}
use Rattle.sm_answer_route.proofs.answer.route_lines.Goals as goal

pub invariant_of-result-2 : goal.invariant_of-result-2
invariant_of-result-2 c =
    let s = c.args.seats.now in
    let first = c.chain-chain.result.now.first in
    let values = c.deref.result.now in
    let vectors = c.all_needs-needs.result.now in
    let x = are_shown c.args.found.now.poset s.market first (rotations_of values) (rows_of vectors) (c.requires.found.market ∙ sym (ap (λ (t : Seating). t.market) c.requires.seats)) c.chain-chain.ensures.first
    (ap rotations_of c.deref.ensures.value ∙ c.chain-chain.ensures.rotations) c.chain-chain.ensures.poset c.all_needs-needs.ensures in
    record {
      few = values_few s.market first.places values (rows_of vectors) x;
      one_each = values_each s.market first.places values vectors x;
      small = small_needs s.market (rotations_of values) (rows_of vectors) x.few x.one_each x.of;
      named = seats_named s first.places (rotations_of values) c.requires.seating.market c.requires.seating.seats x.printed.chain;
    }

pub invariant_of-result-3 : goal.invariant_of-result-3
invariant_of-result-3 c =
    let r = c.requires.found.route in
    record { numbered = rw c.deref-2.ensures.value (steps_numbered r.from r.to _ _ c.chain-chain.ensures.poset.few r.between) }

pub returns-clause-right : goal.returns-clause-right
returns-clause-right c texts stable =
    let w = c.args.instance.now in
    let s = c.args.seats.now in
    let first = c.chain-chain.result.now.first in
    let rotations = rotations_of c.deref.result.now in
    let needs = rows_of c.all_needs-needs.result.now in
    let x = are_shown c.args.found.now.poset s.market first rotations needs (c.requires.found.market ∙ sym (ap (λ (t : Seating). t.market) c.requires.seats)) c.chain-chain.ensures.first
    (ap rotations_of c.deref.ensures.value ∙ c.chain-chain.ensures.rotations) c.chain-chain.ensures.poset c.all_needs-needs.ensures in
    let route = route_found first rotations c.deref-2.result.now c.requires.found c.chain-chain.ensures.first (ap rotations_of c.deref.ensures.value ∙ c.chain-chain.ensures.rotations) c.deref-2.ensures.value in
    given_right _ _ _ (route_given w c.args.given.now.left.places.items c.args.given.now.right.places.items s first.places rotations needs c.deref-2.result.now)
    (joined_is _ _ _ _ (same_is _) (joined_is _ _ _ _ c.both_matchings.ensures.all (joined_is _ _ _ _ (same_is _) (joined_is _ _ _ _ (same_is _) (joined_is _ _ _ _ (same_is _) (same_is _))))))
    (route_right first.places rotations needs c.deref-2.result.now texts c.args.given.now c.requires.seats x route stable)

pub returns-clause-some : goal.returns-clause-some
returns-clause-some c =
    let w = c.args.instance.now in
    let s = c.args.seats.now in
    let first = c.chain-chain.result.now.first in
    let rotations = rotations_of c.deref.result.now in
    let needs = rows_of c.all_needs-needs.result.now in
    let x = are_shown c.args.found.now.poset s.market first rotations needs (c.requires.found.market ∙ sym (ap (λ (t : Seating). t.market) c.requires.seats)) c.chain-chain.ensures.first
    (ap rotations_of c.deref.ensures.value ∙ c.chain-chain.ensures.rotations) c.chain-chain.ensures.poset c.all_needs-needs.ensures in
    let r = c.requires.found.route in
    let numbered : All IsStepNumbered c.deref-2.result.now = rw c.deref-2.ensures.value (steps_numbered r.from r.to _ _ c.chain-chain.ensures.poset.few r.between) in
    given_some _ _ (route_given w c.args.given.now.left.places.items c.args.given.now.right.places.items s first.places rotations needs c.deref-2.result.now)
    (joined_some _ _ (same_some _) (joined_some _ _ c.both_matchings.ensures.some (joined_some _ _ (same_some _) (joined_some _ _ (same_some _) (joined_some _ _ (same_some _) (same_some _))))))
    (joined_is _ _ _ _ (same_is _) (joined_is _ _ _ _ c.both_matchings.ensures.all (joined_is _ _ _ _ (same_is _) (joined_is _ _ _ _ (same_is _) (joined_is _ _ _ _ (same_is _) (same_is _))))))
    (route_sound c.args.input.now first.places rotations needs c.deref-2.result.now c.args.given.now.left.places.items c.args.given.now.right.places.items c.requires.input c.proposer_count-count.ensures.instance c.requires.seating x c.requires.left c.requires.right numbered)

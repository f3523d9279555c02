use Rattle.std.proofs.Common.{sym, subst, ap, ◌∙◌}
use Rattle.sm_agents.specs.Written.{Written}
use Rattle.sm_instance.specs.Matching.{IsMatching}
use Rattle.sm_lists.proofs.ResultLemmas.{IfOk-both}
use Rattle.sm_market.specs.Lists.{Lists}
use Rattle.sm_market.specs.Stable.{IsStable}
use Rattle.sm_seats.specs.Seating.{Seating}
use Rattle.sm_seats.specs.Taken.{places_taken}
use Rattle.sm_answer_route.proofs.SeatedLemmas.{seats_stable, set_is}
use Rattle.sm_answer_route.proofs.seated.set_for.Goals as goal

pub to_seats-requires : goal.to_seats-requires
to_seats-requires c =
    subst (λ (w : Written). IsMatching w c.args.matching.now.places.items) (sym (ap (λ (s : Seating). s.written) c.requires.seats)) c.requires.stable.matching

pub set_of-requires-clause-stable : goal.set_of-requires-clause-stable
set_of-requires-clause-stable c =
    let taken = c.in_ok-seated.ensures.places ∙ ap (λ (s : Seating). places_taken s.written c.args.matching.now.places.items) c.requires.seats in
    subst (λ (l : Lists). IsStable l c.in_ok-seated.seated.places) (sym c.requires.market) (seats_stable c.requires.seating c.requires.stable c.in_ok-seated.ensures.pairing taken)

pub returns : goal.returns
returns c =
    let taken = c.in_ok-seated.ensures.places ∙ ap (λ (s : Seating). places_taken s.written c.args.matching.now.places.items) c.requires.seats in
    IfOk-both c.set_of.result _ _ _
    (λ set closed leads. set_is c.requires.seating c.requires.stable c.in_ok-seated.ensures.pairing taken c.args.poset.now set.members.items c.requires.seats c.requires.market closed leads)
    c.set_of.ensures.closed c.set_of.ensures.matching

use Rattle.std.proofs.Common.{◌∙◌, ap, sym, subst}
use Rattle.std.proofs.lemmas.Result.{IfOk-weaker}
use Rattle.sm_instance.specs.Matching.{IsMatching}
use Rattle.sm_market.specs.PairingFaults.{AreHeld}
use Rattle.sm_market.proofs.PairingLemmas.{held_of_matching}
use Rattle.sm_seats.specs.SeatMarket.{seat_market}
use Rattle.sm_seats.specs.Seating.{Seating, seating_of, written_of}
use Rattle.sm_check_weight.proofs.WholeLemmas.{set_stable, set_matching, whole_set_is}
use Rattle.sm_check_weight.proofs.taken.matching_of.Goals as goal

pub held-requires : goal.held-requires
held-requires c =
    let h = c.requires.set in
    let market = c.market-market.ensures ∙ ap (λ (s : Seating). s.market) c.requires.seats in
    let set = c.args.set.now in
    let is = whole_set_is h.walk_of set c.market-market.result.now market c.in_ok-places.places.items (rw c.deref.ensures.value at c.in_ok-places.ensures) in
    let held = subst (AreHeld (seat_market c.args.weighed.now.instance.now)) (sym (c.deref-2.ensures.value ∙ is)) (held_of_matching (set_stable h.walk_of set h.closed).matching) in
    subst (λ l. AreHeld l c.deref-2.result.now) (sym market) held

pub returns-clause-places : goal.returns-clause-places
returns-clause-places c = IfOk-weaker c.to_hospitals.result _ _
    (λ a e above k.
    let market = c.market-market.ensures ∙ ap (λ (s : Seating). s.market) c.requires.seats in
    let is = whole_set_is k c.args.set.now c.market-market.result.now market c.in_ok-places.places.items (rw c.deref.ensures.value at c.in_ok-places.ensures) in
    e ∙ ap (λ (s : Seating). written_of s c.in_ok-seated.seated.places.proposers) c.requires.seats
    ∙ ap (written_of (seating_of c.args.weighed.now.instance.now)) (c.in_ok-seated.ensures.places ∙ c.deref-2.ensures.value ∙ is))
    c.to_hospitals.ensures

pub returns-clause-matching : goal.returns-clause-matching
returns-clause-matching c = IfOk-weaker c.to_hospitals.result _ _
    (λ a e.
    let h = c.requires.set in
    let market = c.market-market.ensures ∙ ap (λ (s : Seating). s.market) c.requires.seats in
    let is = whole_set_is h.walk_of c.args.set.now c.market-market.result.now market c.in_ok-places.places.items (rw c.deref.ensures.value at c.in_ok-places.ensures) in
    subst (IsMatching c.args.weighed.now.instance.now)
    (sym (e ∙ ap (λ (s : Seating). written_of s c.in_ok-seated.seated.places.proposers) c.requires.seats
    ∙ ap (written_of (seating_of c.args.weighed.now.instance.now)) (c.in_ok-seated.ensures.places ∙ c.deref-2.ensures.value ∙ is)))
    (set_matching h.walk_of c.args.set.now h.closed c.requires.seating))
    c.to_hospitals.ensures

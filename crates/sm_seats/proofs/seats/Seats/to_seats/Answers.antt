use Rattle.std.proofs.Common.{◌≡◌, subst, ap, ◌∙◌}
use Rattle.sm_seats.specs.SeatMarket.{seat_market}
use Rattle.sm_seats.specs.Seating.{Seating}
use Rattle.sm_seats.specs.Kept.{IsKept}
use Rattle.sm_seats.specs.Taken.{places_taken}
use Rattle.sm_seats.proofs.CorrespondenceLaws.{sound_entries}
use Rattle.sm_seats.proofs.TakenLaws.{taken_are_held}
use Rattle.sm_seats.proofs.seats.Seats.to_seats.Goals as goal

pub places_taken-requires : goal.places_taken-requires
places_taken-requires c =
    let kept : IsKept c.args.self.now = subst IsKept c.self.view_is c.self.invariant.kept in
    (kept.instance, (kept.made, c.requires))

pub held-requires : goal.held-requires
held-requires c =
    let kept : IsKept c.args.self.now = subst IsKept c.self.view_is c.self.invariant.kept in
    let w = c.args.self.now.written in
    let market : c.as_ref-market.result.now ≡ seat_market w = c.as_ref-market.ensures ∙ ap (λ (s : Seating). s.market) (c.self.view_is ∙ kept.made) in
    let places : c.deref.result.now ≡ places_taken w c.args.a.now.places.items = c.deref.ensures.value ∙ c.in_ok-places.ensures in
    rw (market, places) (taken_are_held (sound_entries kept.instance) c.args.a.now.places.items c.requires)

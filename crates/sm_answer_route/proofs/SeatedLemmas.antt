-- The closed set of a stable matching.
use Rattle.std.proofs.Common.{◌≡◌, ℕ, Bool, List, Option, sym, ap, ◌∙◌, subst}
use Rattle.sm_agents.specs.Written.{Written}
use Rattle.sm_instance.specs.Stable.{IsStable as IsWrittenStable}
use Rattle.sm_market.specs.Lists.{Lists}
use Rattle.sm_market.specs.Matching.{Places}
use Rattle.sm_market.specs.Pairing.{Paired, IsPairingOf}
use Rattle.sm_market.specs.Stable.{IsStable}
use Rattle.sm_market.proofs.PairingLemmas.{one_matching}
use Rattle.sm_theory.specs.ClosedSets.{IsClosed, matching_of}
use Rattle.sm_poset.specs.Posets.{RotationPoset}
use Rattle.sm_seats.specs.SeatMarket.{seat_market}
use Rattle.sm_seats.specs.Seating.{Seating, seating_of, written_of}
use Rattle.sm_seats.specs.Taken.{places_taken}
use Rattle.sm_seats.specs.Correspondence.{IsSeating, IsSeatedAs}
use Rattle.sm_answer_given.specs.Given.{AreStableGiven}
use Rattle.sm_answer_given.specs.declared.given.Given.{Given}
use Rattle.sm_answer_route.specs.RouteAnswer.{IsSetOf}

-- both matchings that were given are stable
pub left_stable : {w : Written} {texts : List (List ℕ)} {given : Given} → AreStableGiven w texts given → IsWrittenStable w given.left.places.items
left_stable {w} h = subst (IsWrittenStable w) (sym h.left_is) h.left_stable.stable

pub right_stable : {w : Written} {texts : List (List ℕ)} {given : Given} → AreStableGiven w texts given → IsWrittenStable w given.right.places.items
right_stable {w} h = subst (IsWrittenStable w) (sym h.right_is) h.right_stable.stable

module _ {w : Written} {s : Seating} (h : IsSeating w s) {places : List (Option ℕ)} (stable : IsWrittenStable w places) {m : Paired} (made : IsPairingOf s.market m) (taken : m.places.proposers ≡ places_taken w places) where
  seated : IsSeatedAs w s places
  seated = h.seated places stable

  same : m.places ≡ seated.matching
  same = one_matching made.matching seated.stable.matching (taken ∙ sym seated.taken)

  -- the pairing in which its proposers are seated is stable
  pub seats_stable : IsStable s.market m.places
  seats_stable = subst (IsStable s.market) (sym same) seated.stable

  -- and a set that leads to that one leads to it
  pub set_is : (poset : RotationPoset) (set : List Bool) → s ≡ seating_of w → poset.lists ≡ s.market → IsClosed poset.lists poset.rotations set
      → matching_of poset.lists poset.first.places poset.rotations set ≡ m.places → IsSetOf w poset.first.places poset.rotations places set
  set_is poset set is market closed leads =
      let lists : poset.lists ≡ seat_market w = market ∙ ap (λ (t : Seating). t.market) is in
      let to : matching_of (seat_market w) poset.first.places poset.rotations set ≡ seated.matching = ap (λ (l : Lists). matching_of l poset.first.places poset.rotations set) (sym lists) ∙ leads ∙ same in
      let back : written_of s (matching_of (seat_market w) poset.first.places poset.rotations set).proposers ≡ places = ap (λ (n : Places). written_of s n.proposers) to ∙ seated.forgets in
      record {
        closed = subst (λ (l : Lists). IsClosed l poset.rotations set) lists closed;
        matching = subst (λ (t : Seating). written_of t (matching_of (seat_market w) poset.first.places poset.rotations set).proposers ≡ places) is back;
      }

use Rattle.std.proofs.Common.{◌≡◌, rules, sym, subst, [], length}
use Rattle.sm_theory.specs.ClosedSets.{IsClosed}
use Rattle.sm_seats.specs.SeatMarket.{seat_market}
use Rattle.sm_check_clauses.specs.Said.{rotations_in}
use Rattle.sm_check_clauses.specs.Flows.{set_of_numbers}
use Rattle.sm_check_weight.proofs.EmptyLemmas.{walk_size, empty_closed, set_made}
use Rattle.sm_check_weight.proofs.taken.Taken.none.Goals as goal

pub matching_of-requires-clause-set : goal.matching_of-requires-clause-set
matching_of-requires-clause-set c =
    let h = c.requires.walk in
    let w = c.args.weighed.now.instance.now in
    let size = length c.args.walk.now.moves.items in
    let is : c.deref.result.now ≡ set_of_numbers size [] = search rules in
    record {
      above = h.above;
      walk_of = h.walk_of;
      closed = subst (IsClosed (seat_market w) (rotations_in w h.above)) (sym is) (empty_closed (seat_market w) (rotations_in w h.above) size (walk_size h.walk_of));
    }

pub returns-clause-set : goal.returns-clause-set
returns-clause-set c above k =
    let size = length c.args.walk.now.moves.items in
    let is : c.in_ok-set.set.items ≡ set_of_numbers size [] = search rules in
    set_made k [] _ is (rw c.deref.ensures.value at (c.in_ok-matching.ensures.places above k)) c.in_ok-matching.ensures.matching

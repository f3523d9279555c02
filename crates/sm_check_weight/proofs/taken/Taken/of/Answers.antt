use Rattle.std.proofs.Common.{◌≡◌, rules, arith, refl, length}
use Rattle.std.proofs.lemmas.Bool.{false≢true}
use Rattle.sm_seats.specs.SeatMarket.{seat_market}
use Rattle.sm_check_clauses.specs.Said.{rotations_in}
use Rattle.sm_check_clauses.specs.Flows.{set_of_numbers}
use Rattle.sm_check_weight.proofs.EmptyLemmas.{allowed_closed, allowed_matching, is_allowed, set_made, set_size}
use Rattle.sm_check_weight.proofs.taken.Taken.of.Goals as goal

pub is_closed-requires : goal.is_closed-requires
is_closed-requires c =
    let h = c.requires.walk in
    let is : c.deref.result.now ≡ set_of_numbers (length c.args.walk.now.moves.items) c.args.numbers.now = search rules in
    set_size h.walk_of c.args.numbers.now c.deref.result.now is h.needs

pub matching_of-requires-clause-set : goal.matching_of-requires-clause-set
matching_of-requires-clause-set c =
    let h = c.requires.walk in
    let w = c.args.weighed.now.instance.now in
    let closed = (c.if-not-is_closed.ensures (seat_market w) (rotations_in w h.above) h.needs).0 refl in
    record {
      above = h.above;
      walk_of = h.walk_of;
      closed = rw c.deref-2.ensures.value (rw c.deref.ensures.value at closed);
    }

pub returns-then-not-are_there : goal.returns-then-not-are_there
returns-then-not-are_there c = λ above k needs allowed.
    let one_each = needs.one_each in
    false≢true (c.if-not-are_there.ensures.1 (λ i there. let most = allowed.there i there in omega (arith, most, one_each, c.size.ensures.size)))

pub returns-then-not-is_closed : goal.returns-then-not-is_closed
returns-then-not-is_closed c = λ above k needs allowed.
    let w = c.args.weighed.now.instance.now in
    let is : c.deref.result.now ≡ set_of_numbers (length c.args.walk.now.moves.items) c.args.numbers.now = search rules in
    false≢true ((c.if-not-is_closed.ensures (seat_market w) (rotations_in w above) needs).1 (allowed_closed k c.args.numbers.now c.deref.result.now is allowed))

pub returns-then-not-allowed : goal.returns-then-not-allowed
returns-then-not-allowed c = λ above k needs allowed.
    let w = c.args.weighed.now.instance.now in
    let is : c.in_ok-set.set.items ≡ set_of_numbers (length c.args.walk.now.moves.items) c.args.numbers.now = search rules in
    false≢true (c.if-not-allowed.ensures.1 (allowed_matching k c.args.numbers.now c.in_ok-set.set.items is c.in_ok-matching.matching.places.items (rw c.deref-2.ensures.value at (c.in_ok-matching.ensures.places above k)) allowed))

pub returns : goal.returns
returns c = λ above k needs.
    let w = c.args.weighed.now.instance.now in
    let is : c.in_ok-set.set.items ≡ set_of_numbers (length c.args.walk.now.moves.items) c.args.numbers.now = search rules in
    let places = rw c.deref-2.ensures.value at (c.in_ok-matching.ensures.places above k) in
    let closed = rw c.deref.ensures.value at ((c.if-not-is_closed.ensures (seat_market w) (rotations_in w above) needs).0 refl) in
    let one_each = needs.one_each in (
      is_allowed k c.args.numbers.now c.in_ok-set.set.items is c.in_ok-matching.matching.places.items places
          (λ i there. let most = c.if-not-are_there.ensures.0 refl i there in omega (arith, most, one_each, c.size.ensures.size))
          closed (c.if-not-allowed.ensures.0 refl),
      set_made k c.args.numbers.now _ is places c.in_ok-matching.ensures.matching,
      refl,
    )

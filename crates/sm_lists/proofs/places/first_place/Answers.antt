use Rattle.std.proofs.Common.{arith}
use Rattle.sm_lists.proofs.FoundLemmas.{found_on_is, found_on-none}
use Rattle.sm_lists.proofs.places.first_place.Goals as goal

pub returns-then-list-place-clause-found : goal.returns-then-list-place-clause-found
returns-then-list-place-clause-found c = found_on_is c.args.list.now c.args.number c.loop-place.place c.loop-place-test.true c.if-list-place.true c.loop-place.invariant

pub returns-clause-found : goal.returns-clause-found
returns-clause-found c = found_on-none c.args.list.now c.args.number (λ i l. c.loop-place.invariant i (omega arith))

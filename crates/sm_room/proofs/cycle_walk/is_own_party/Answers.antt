use Rattle.std.proofs.Common.{arith}
use Rattle.std.proofs.lemmas.Bool.{ltb-true, ltb-false}
use Rattle.sm_room.proofs.WalkLemmas.{own_at_bound, own_marked, marked_own}
use Rattle.sm_room.proofs.cycle_walk.is_own_party.Goals as goal

pub returns-then-place-bounds-clause-no : goal.returns-then-place-bounds-clause-no
returns-then-place-bounds-clause-no c = λ e own.
    omega (arith, own_at_bound c.requires.path c.requires.closed c.index-x.ensures c.index-place.ensures own, c.if-place-bounds.true)

pub returns-clause-yes : goal.returns-clause-yes
returns-clause-yes c = λ e.
    marked_own c.requires.path c.requires.closed c.index-x.ensures c.index-place.ensures c.at.ensures.named c.at.ensures.in_range c.index.ensures c.if-place-bounds.false (ltb-true _ _ e)

pub returns-clause-no : goal.returns-clause-no
returns-clause-no c = λ e own.
    omega (arith, own_marked c.requires.path c.requires.closed c.index-x.ensures c.index-place.ensures c.at.ensures.named c.at.ensures.in_range c.index.ensures own, ltb-false _ _ e)

use Rattle.sm_room.proofs.RotateLemmas.{short_unless, own_short}
use Rattle.sm_room.proofs.rotating.next_cycle.Goals as goal

pub returns-in_default-clause-found : goal.returns-in_default-clause-found
returns-in_default-clause-found c = short_unless c.args.bounds.now _ (λ two. absurd ((rw c.in_default.is at c.in_ok-one.ensures.found) two))

pub returns-then-is_own_party-clause-found : goal.returns-then-is_own_party-clause-found
returns-then-is_own_party-clause-found c =
    let f = rw c.in-Some.is at c.in_ok-one.ensures.found in
    rw f.0 at (own_short f.1 c.requires.good (c.is_own_party.ensures.yes c.if-is_own_party.true))

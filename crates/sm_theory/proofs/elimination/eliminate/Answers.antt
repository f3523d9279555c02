use Rattle.std.proofs.Common.{◌≡◌, subst, sym}
use Rattle.sm_market.specs.Cycles.{places_after}
use Rattle.sm_market.specs.Stable.{IsStable}
use Rattle.sm_theory.proofs.Bridge.Rotation.{eliminated_stable, turned_is}
use Rattle.sm_theory.proofs.elimination.eliminate.Goals as goal

pub returns-clause-moved : goal.returns-clause-moved
returns-clause-moved c =
    let moved : c.turn.new.self.places.proposers ≡ places_after c.args.market.now c.args.m.now.places.proposers c.args.rotation.now.pairs.items = rw (← c.deref.ensures.value) c.turn.ensures.moved in
    turned_is c.proposers.ensures.market c.requires.made.matching c.requires.exposed c.turn.ensures.made.matching moved

pub returns-clause-stable : goal.returns-clause-stable
returns-clause-stable c = λ stable.
    let moved : c.turn.new.self.places.proposers ≡ places_after c.args.market.now c.args.m.now.places.proposers c.args.rotation.now.pairs.items = rw (← c.deref.ensures.value) c.turn.ensures.moved in
    let is = turned_is c.proposers.ensures.market c.requires.made.matching c.requires.exposed c.turn.ensures.made.matching moved in
    subst (IsStable c.args.market.now) (sym is) (eliminated_stable c.proposers.ensures.market stable c.requires.exposed)

use Rattle.std.proofs.Common.{◌<◌, length, refl, arith, rules}
use Rattle.std.proofs.lemmas.List.{take_more_set, length-set, length-take-le}
use Rattle.sm_check_decide.proofs.TrailLemmas.{room_of, kept_of}
use Rattle.sm_check_decide.proofs.trail.Trail.push.Goals as goal

pub index_mut-requires : goal.index_mut-requires
index_mut-requires c =
    let free : c.self.inside.count < length c.self.inside.order.items = room_of c.self.invariant c.self.view_is c.requires.below c.requires.new in
    search rules

pub overflow_add-self : goal.overflow_add-self
overflow_add-self c = omega (arith, c.self.invariant.few, room_of c.self.invariant c.self.view_is c.requires.below c.requires.new)

pub invariant_of-self : goal.invariant_of-self
invariant_of-self c = kept_of c.self.invariant c.self.view_is c.requires.below c.requires.new

pub returns-clause-pushed : goal.returns-clause-pushed
returns-clause-pushed c =
    let order = c.self.inside.order.items in
    let count = c.self.inside.count in
    rw (← c.self.view_is, length-set order count c.args.p, take_more_set order count c.args.p (room_of c.self.invariant c.self.view_is c.requires.below c.requires.new)) refl

pub returns-clause-room : goal.returns-clause-room
returns-clause-room c = rw (← c.self.view_is) (omega (arith, length-take-le c.self.inside.count c.self.inside.order.items c.self.invariant.within, room_of c.self.invariant c.self.view_is c.requires.below c.requires.new))

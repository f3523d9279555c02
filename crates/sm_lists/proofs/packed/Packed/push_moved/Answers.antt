use Rattle.std.proofs.Common.{◌+◌, refl, subst}
use Rattle.sm_lists.specs.Packed.{HasSpace}
use Rattle.sm_lists.specs.declared.packed.Slot.{Slot}
use Rattle.sm_lists.proofs.PackedLemmas.{lists_pushed, slots_pushed, slot_read, slots_in_range}
use Rattle.sm_lists.proofs.packed.Packed.push_moved.Goals as goal

pub invariant_of-self-2 : goal.invariant_of-self-2
invariant_of-self-2 g c =
    let items = c.self.inside.items.items in
    let new = c.moved.new.items.items in
    let slots = c.self.inside.slots.items in
    let r : Slot = c.in_ok-slot.slot in
    let s : Slot = record { start = r.start; end = r.end + 1; limit = r.limit } in
    let read = slot_read items slots c.args.self.now c.args.a c.index.result.now c.self.view_is c.requires c.index.ensures in
    let spaced = subst (λ (q : Slot). HasSpace items new q r) read c.in_ok-slot.ensures.space in
    slots_pushed items new slots c.args.a r s c.args.item (slots_in_range items slots c.args.self.now c.args.a c.self.view_is c.requires) c.self.invariant spaced refl refl refl

pub returns-clause-pushed : goal.returns-clause-pushed
returns-clause-pushed g c =
    let items = c.self.inside.items.items in
    let new = c.moved.new.items.items in
    let slots = c.self.inside.slots.items in
    let r : Slot = c.in_ok-slot.slot in
    let s : Slot = record { start = r.start; end = r.end + 1; limit = r.limit } in
    let read = slot_read items slots c.args.self.now c.args.a c.index.result.now c.self.view_is c.requires c.index.ensures in
    let spaced = subst (λ (q : Slot). HasSpace items new q r) read c.in_ok-slot.ensures.space in
    rw (← c.self.view_is)
    (lists_pushed items new slots c.args.a r s c.args.item (slots_in_range items slots c.args.self.now c.args.a c.self.view_is c.requires) c.self.invariant spaced refl refl)

use Rattle.std.proofs.Common.{◌+◌, ap}
use Rattle.sm_lists.specs.declared.packed.Slot.{Slot}
use Rattle.sm_lists.proofs.PackedLemmas.{lists_put, slot_read}
use Rattle.sm_lists.proofs.packed.Packed.put.Goals as goal

pub returns : goal.returns
returns g c =
    let items = c.self.inside.items.items in
    let slots = c.self.inside.slots.items in
    let read = slot_read items slots c.args.self.now c.args.a c.index.result.now c.self.view_is c.requires.in_range c.index.ensures in
    rw (← c.self.view_is)
    (lists_put items slots c.args.a (c.index.result.now.start + c.args.place) c.args.place c.args.item c.self.invariant
    (ap (λ (r : Slot). r.start + c.args.place) read) (rw c.self.view_is c.requires.on_list))

use Rattle.std.proofs.Common.{◌+◌, ◌++◌, ◌∷◌, [], set, refl, sym, ap, ◌∙◌}
use Rattle.sm_lists.specs.Packed.{packed_list, packed_lists}
use Rattle.sm_lists.specs.declared.packed.Slot.{Slot}
use Rattle.sm_lists.proofs.PackedLemmas.{lists_added, list_read, slot_read}
use Rattle.sm_lists.proofs.packed.Packed.push.Goals as goal

pub returns-then-end-limit-clause-pushed : goal.returns-then-end-limit-clause-pushed
returns-then-end-limit-clause-pushed g c =
    let items = c.self.inside.items.items in
    let slots = c.self.inside.slots.items in
    let r : Slot = c.index.result.now in
    let m : Slot = c.index_mut-then-end-limit.result.now in
    let s : Slot = record { start = m.start; end = r.end + 1; limit = m.limit } in
    let read = slot_read items slots c.args.self.now c.args.a r c.self.view_is c.requires c.index.ensures in
    let again = slot_read items slots c.args.self.now c.args.a m c.self.view_is c.requires c.index_mut-then-end-limit.ensures.value in
    rw (← c.self.view_is)
    (lists_added items slots c.args.a r s c.args.item c.self.invariant (sym read) c.if-end-limit.true (ap (λ q. q.start) (again ∙ sym read)) refl
    ∙ ap (λ list. set (packed_lists items slots) c.args.a (list ++ c.args.item ∷ [])) (ap (packed_list items) read ∙ sym (list_read items slots c.args.a)))

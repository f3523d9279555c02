use Rattle.std.proofs.Common.{◌≡◌, ℕ, [], length, map, replicate, ap, sym, subst, ◌∙◌}
use Rattle.std.proofs.lemmas.List.{length-map}
use Rattle.sm_lists.specs.Rows.{lists_in}
use Rattle.sm_lists.specs.Packed.{packed_list, packed_lists, emptied, AreSlots}
use Rattle.sm_lists.proofs.PackedLemmas.{slots_written, slots_emptied, lists_emptied}
use Rattle.sm_lists.proofs.packed.Packed.with_room.Goals as goal

pub invariant_of-packed : goal.invariant_of-packed
invariant_of-packed g c =
    let items = c.packed.inside.items.items in
    let slots = c.packed.inside.slots in
    let is = slots_written slots c.empty.new.slots (c.empty.ensures ∙ ap (map emptied) c.deref_mut.ensures.value) in
    subst (AreSlots (length items)) (sym is) (slots_emptied (length items) slots.items c.packed.invariant)

pub returns : goal.returns
returns g c =
    let items = c.packed.inside.items.items in
    let slots = c.packed.inside.slots in
    let lists = lists_in c.args.lists.now in
    let is = slots_written slots c.empty.new.slots (c.empty.ensures ∙ ap (map emptied) c.deref_mut.ensures.value) in
    let count : length slots.items ≡ length c.args.lists.now = sym (length-map slots.items (packed_list items)) ∙ ap length c.packed.view_is ∙ ap length c.in_ok-packed.ensures
    ∙ length-map lists _ ∙ length-map c.args.lists.now _ in
    ap (packed_lists items) is ∙ lists_emptied items slots.items ∙ ap (λ (n : ℕ). replicate n []) count

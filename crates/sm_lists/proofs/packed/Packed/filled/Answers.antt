use Rattle.std.proofs.Common.{ap, ◌∙◌}
use Rattle.sm_lists.specs.Rows.{lists_in}
use Rattle.sm_lists.specs.Packed.{packed_lists}
use Rattle.sm_lists.proofs.PackedLemmas.{lists_filled}
use Rattle.sm_lists.proofs.packed.Packed.filled.Goals as goal

pub returns : goal.returns
returns g c =
    let slots = c.in_ok-slots.slots.items in
    ap (λ items. packed_lists items slots) c.in_ok-items.ensures ∙ lists_filled c.args.item (lists_in c.args.lists.now) c.in_ok-slots.count slots c.in_ok-slots.ensures

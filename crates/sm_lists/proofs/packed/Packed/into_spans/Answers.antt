use Rattle.std.proofs.Common.{length, map, ap, ◌∙◌}
use Rattle.sm_lists.specs.Spans.{list_in}
use Rattle.sm_lists.proofs.PackedLemmas.{spans_of_slots, lists_at_spans}
use Rattle.sm_lists.proofs.packed.Packed.into_spans.Goals as goal

pub returns-clause-spans : goal.returns-clause-spans
returns-clause-spans g c = rw (c.in_ok-spans.ensures, c.deref.ensures.value) (spans_of_slots (length c.self.inside.items.items) c.self.inside.slots.items c.self.invariant)

pub returns-clause-lists : goal.returns-clause-lists
returns-clause-lists g c =
    ap (map (list_in c.self.inside.items.items)) c.in_ok-spans.ensures
    ∙ rw c.deref.ensures.value (lists_at_spans c.self.inside.items.items c.self.inside.slots.items)
    ∙ c.self.view_is

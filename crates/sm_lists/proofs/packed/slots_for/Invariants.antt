use Rattle.std.proofs.Common.{◌≡◌, length, map, take}
use Rattle.std.specs.List.{sum_by}
use Rattle.sm_lists.specs.Rows.{lists_in}
use Rattle.sm_lists.specs.Packed.{AreFull}
use Rattle.sm_lists.proofs.packed.slots_for.Given as goal

abbrev pub invariant-loop-list : goal.invariant-loop-list
invariant-loop-list l = record {
  count : l.start ≡ sum_by (λ list. length list) (lists_in (take l.list-index l.lists));
  full : AreFull (map (λ list. length list) (lists_in (take l.list-index l.lists))) l.start l.slots.items;
}

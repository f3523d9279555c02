use Rattle.std.proofs.Common.{◌≡◌, map, take}
use Rattle.sm_lists.specs.Packed.{span_of}
use Rattle.sm_lists.proofs.packed.spans_of.Given as goal

abbrev pub invariant-loop-slot : goal.invariant-loop-slot
invariant-loop-slot l = l.spans.items ≡ map span_of (take l.slot-index l.slots)

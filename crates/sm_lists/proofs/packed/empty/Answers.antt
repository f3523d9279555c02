use Rattle.std.proofs.Common.{arith}
use Rattle.sm_lists.specs.Packed.{no_slot, emptied}
use Rattle.sm_lists.proofs.PackedLemmas.{mapped_more}
use Rattle.sm_lists.proofs.packed.empty.Goals as goal

pub loop-slot-preserved : goal.loop-slot-preserved
loop-slot-preserved c = mapped_more emptied c.loop-slot.slots c.args.slots.now c.loop-slot.slot-index no_slot (omega arith) c.loop-slot.invariant

use Rattle.std.proofs.Common.{◌≡◌, ◌++◌, map, take, drop}
use Rattle.sm_lists.specs.Packed.{emptied}
use Rattle.sm_lists.proofs.packed.empty.Given as goal

abbrev pub invariant-loop-slot : goal.invariant-loop-slot
invariant-loop-slot l = l.slots ≡ map emptied (take l.slot-index l.initial.slots) ++ drop l.slot-index l.initial.slots

use Rattle.std.proofs.Common.{Ok, take}
use Rattle.std.specs.List.{flat_map}
use Rattle.std.specs.declared.alloc.AllocError.{AllocError}
use Rattle.sm_report.specs.Fields.{spaced}
use Rattle.sm_report.specs.Items.{each_of}
use Rattle.sm_report.specs.Putting.{PutsText}
use Rattle.sm_report.proofs.items.put_items.Given as goal

-- the items so far are put
abbrev pub invariant-loop-i : goal.invariant-loop-i
invariant-loop-i l = PutsText {E = AllocError} l.initial.into l.into (flat_map spaced (take l.i (each_of l.input l.items))) (Ok tt)

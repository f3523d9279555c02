use Rattle.std.proofs.Common.{◌∷◌, Ok, take}
use Rattle.std.specs.List.{flat_map}
use Rattle.std.specs.declared.alloc.AllocError.{AllocError}
use Rattle.sm_agents.specs.Vectors.{agents_of}
use Rattle.sm_report.specs.Putting.{PutsText}
use Rattle.sm_instance_lines.specs.Names.{name_of}
use Rattle.sm_instance_lines.proofs.naming.put_names.Given as goal

-- the names so far are put
abbrev pub invariant-loop-a : goal.invariant-loop-a
invariant-loop-a l =
    PutsText {E = AllocError} l.initial.into l.into (flat_map (λ a. 32 ∷ name_of (agents_of l.others) a) (take l.a-index l.list)) (Ok tt)

use Rattle.std.proofs.Common.{◌∷◌, ◌++◌, decimal, Ok, take, slice_index}
use Rattle.std.specs.List.{flat_map}
use Rattle.std.specs.declared.alloc.AllocError.{AllocError}
use Rattle.sm_report.specs.Putting.{PutsText}
use Rattle.sm_report.proofs.fields.put_vector.Given as goal

-- the first number and those behind it so far are put
abbrev pub invariant-loop-number : goal.invariant-loop-number
invariant-loop-number l =
    PutsText {E = AllocError} l.fn.into l.into
    (decimal (slice_index l.fn.vector 0) ++ flat_map (λ n. 44 ∷ decimal n) (take l.number-index l.more)) (Ok tt)

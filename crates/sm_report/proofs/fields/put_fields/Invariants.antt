use Rattle.std.proofs.Common.{◌∷◌, Ok, take}
use Rattle.std.specs.List.{flat_map}
use Rattle.std.specs.declared.alloc.AllocError.{AllocError}
use Rattle.sm_report.specs.Fields.{text_of_field}
use Rattle.sm_report.specs.Putting.{PutsText}
use Rattle.sm_report.proofs.fields.put_fields.Given as goal

-- the fields so far are put
abbrev pub invariant-loop-field : goal.invariant-loop-field
invariant-loop-field l =
    PutsText {E = AllocError} l.initial.into l.into (flat_map (λ f. 32 ∷ text_of_field l.input f) (take l.field-index l.fields)) (Ok tt)

use Rattle.std.proofs.Common.{◌≡◌, ◌++◌, take, map, ℕ, Vec}
use Rattle.std.specs.declared.alloc.Global.{Global}
use Rattle.sm_report.specs.Fields.{spaced}
use Rattle.sm_serve.proofs.stop.put_fields.Given as goal

-- the fields so far are put
abbrev pub invariant-loop-field : goal.invariant-loop-field
invariant-loop-field l = l.into.bytes ≡ l.fn.into.bytes ++ spaced (map (λ (field : Vec ℕ Global). field.items) (take l.field-index l.field-items))

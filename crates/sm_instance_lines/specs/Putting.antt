-- What putting a line of an instance does to a writer.
use Rattle.std.specs.Prelude.{◌≡◌, ℕ, List, Bool, true, false, Option, Some, None, Result, Ok, Err}
use Rattle.std.specs.declared.alloc.AllocError.{AllocError}
use Rattle.sm_text.specs.Writer.{WriterData}
use Rattle.sm_report.specs.Putting.{PutsText}

-- where there is a text it was put, or the put was refused; where there is none nothing was done
abbrev pub PutsIfAny : (old new : WriterData) → Option (List ℕ) → Result Bool AllocError → Type 0
PutsIfAny old new (Some text) (Ok true) = PutsText {E = AllocError} old new text (Ok tt)
PutsIfAny old new (Some text) (Ok false) = ⊥
PutsIfAny old new (Some text) (Err e) = PutsText {E = AllocError} old new text (Err e)
PutsIfAny old new None (Ok true) = ⊥
PutsIfAny old new None (Ok false) = new ≡ old
PutsIfAny old new None (Err e) = ⊥

-- What is found at a line, and what is kept for the lines below it.
use Rattle.std.specs.Prelude.{Option, None, Some}
use Rattle.sm_check_clauses.specs.declared.verdicts.Reason.{Reason}
use Rattle.sm_check_clauses.specs.Verdicts.{Finds}

-- no clause fails there, and this is kept; or this one is the first that fails
abbrev pub FindsOrKeeps : (Reason → Type 0) → Type 0 → Option Reason → Type 0
FindsOrKeeps Holds Kept None = Finds Holds None × Kept
FindsOrKeeps Holds Kept (Some why) = Finds Holds (Some why)

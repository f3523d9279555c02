use Rattle.std.proofs.Common.{◌≡◌, ◌≤◌, drop, length}
use Rattle.sm_check_forms.specs.Layouts.{behind}
use Rattle.sm_check_forms.specs.Lefts.{parts_of, opening_by}
use Rattle.sm_check_forms.proofs.layouts.taking_part.Given as goal

abbrev pub invariant-loop-at : goal.invariant-loop-at
invariant-loop-at l = (behind (parts_of (drop l.from l.parts)) (opening_by l.line) ≡ behind (parts_of (drop l.at l.parts)) (opening_by l.line)) × (l.at ≤ length l.parts)

use Rattle.std.proofs.Common.{◌≡◌, drop}
use Rattle.std.specs.Prelude.{nat_le}
use Rattle.std.specs.List.{list_all}
use Rattle.sm_check_forms.proofs.forms.are_above.Given as goal

abbrev pub invariant-loop-i : goal.invariant-loop-i
invariant-loop-i l = list_all (nat_le l.lowest) (drop l.i l.persons) ≡ list_all (nat_le l.lowest) l.persons

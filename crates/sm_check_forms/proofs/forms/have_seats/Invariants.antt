use Rattle.std.proofs.Common.{◌≡◌, drop}
use Rattle.std.specs.List.{list_all}
use Rattle.sm_check_forms.specs.Seats.{pair_has_seat}
use Rattle.sm_check_forms.proofs.forms.have_seats.Given as goal

abbrev pub invariant-loop-i : goal.invariant-loop-i
invariant-loop-i l = list_all (pair_has_seat l.instance) (drop l.i l.pairs) ≡ list_all (pair_has_seat l.instance) l.pairs

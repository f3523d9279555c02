use Rattle.std.proofs.Common.{◌≡◌, drop}
use Rattle.std.specs.List.{list_all}
use Rattle.sm_check_forms.specs.Seats.{is_seat}
use Rattle.sm_check_forms.proofs.forms.are_seats.Given as goal

abbrev pub invariant-loop-i : goal.invariant-loop-i
invariant-loop-i l = list_all (is_seat l.instance) (drop l.i l.seats) ≡ list_all (is_seat l.instance) l.seats

use Rattle.std.proofs.Common.{◌≡◌, map, take}
use Rattle.sm_check_forms.specs.Seats.{seat_number}
use Rattle.sm_check_forms.proofs.numbering.seat_numbers.Given as goal

abbrev pub invariant-loop-k : goal.invariant-loop-k
invariant-loop-k l = l.numbers.items ≡ map (seat_number l.instance) (take l.k l.seats)

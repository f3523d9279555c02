use Rattle.std.proofs.Common.{◌≡◌}
use Rattle.sm_seats.specs.ProposerRows.{seat_rows_of}
use Rattle.sm_seats.proofs.plain.plain_proposers.Given as goal

abbrev pub invariant-loop-p : goal.invariant-loop-p
invariant-loop-p l = l.lists ≡ seat_rows_of l.instance l.p

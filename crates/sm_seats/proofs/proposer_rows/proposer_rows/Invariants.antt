use Rattle.std.proofs.Common.{◌≡◌, []}
use Rattle.sm_seats.specs.ProposerRows.{seat_rows_of, cross_rows_of}
use Rattle.sm_seats.proofs.proposer_rows.proposer_rows.Given as goal

abbrev pub invariant-loop-p : goal.invariant-loop-p
invariant-loop-p l = record {
  lists : l.writer.lists ≡ seat_rows_of l.instance l.p;
  crosses : l.writer.crosses ≡ cross_rows_of l.instance l.p;
  list : l.writer.list ≡ [];
  list_crosses : l.writer.list_crosses ≡ [];
}

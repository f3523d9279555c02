use Rattle.std.proofs.Common.{◌≡◌}
use Rattle.std.specs.List.{flat_map}
use Rattle.sm_seats.specs.SeatMarket.{seats_at}
use Rattle.sm_seats.specs.Tables.{reviewers_before, crosses_at}
use Rattle.sm_seats.proofs.proposer_rows.write_row.Given as goal

abbrev pub invariant-loop-place : goal.invariant-loop-place
invariant-loop-place l = record {
  lists : l.writer.lists ≡ l.initial.writer.lists;
  crosses : l.writer.crosses ≡ l.initial.writer.crosses;
  list : l.writer.list ≡ flat_map (seats_at l.instance) (reviewers_before l.instance l.p l.place);
  list_crosses : l.writer.list_crosses ≡ flat_map (crosses_at l.instance l.p) (reviewers_before l.instance l.p l.place);
}

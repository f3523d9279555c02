use Rattle.sm_seats.specs.SeatMarket.{seat_row}
use Rattle.sm_seats.specs.Tables.{cross_row}
use Rattle.sm_lists.proofs.RowLemmas.{list_pushed}
use Rattle.sm_seats.proofs.proposer_rows.proposer_rows.Goals as goal

pub loop-p-preserved : goal.loop-p-preserved
loop-p-preserved c =
    let w = c.args.instance.now in
    let p = c.loop-p.p in
    let before = c.loop-p.invariant in
    let row = c.in_ok-write_row.ensures in
    let end = c.in_ok-end_list.ensures in
    record {
      lists = rw (end.lists, row.lists) (list_pushed c.loop-p.writer.lists c.write_row.new.writer.list (seat_row w) p before.lists row.list);
      crosses = rw (end.crosses, row.crosses) (list_pushed c.loop-p.writer.crosses c.write_row.new.writer.list_crosses (cross_row w) p before.crosses row.list_crosses);
      list = end.list;
      list_crosses = end.list_crosses;
    }

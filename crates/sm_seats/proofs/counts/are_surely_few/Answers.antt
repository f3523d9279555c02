use Rattle.std.proofs.Common.{arith}
use Rattle.sm_seats.proofs.LimitLaws.{seat_entries_before-suc, seat_entries-le}
use Rattle.sm_seats.proofs.counts.are_surely_few.Goals as goal

pub loop-r-preserved : goal.loop-r-preserved
loop-r-preserved c =
    let w = c.args.instance.now in
    let r = c.loop-r.r in
    let most = seat_entries-le w r c.min-count.ensures c.capacity.ensures.capacity c.reviewer_len-len.ensures.length in
    record {
      entries = omega (arith, seat_entries_before-suc w r, most, c.loop-r.invariant.entries);
      few = c.if-entries-gt-MOST_SEAT_ENTRIES.false;
    }

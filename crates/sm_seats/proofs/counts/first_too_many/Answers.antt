use Rattle.std.proofs.Common.{◌≡◌, ◌*◌, ◌∙◌, ap, arith}
use Rattle.sm_seats.specs.SeatMarket.{seat_count}
use Rattle.sm_seats.specs.SeatEntries.{seat_entries}
use Rattle.sm_seats.proofs.LimitLaws.{seat_entries_before-suc}
use Rattle.sm_seats.proofs.TableLemmas.{count_is}
use Rattle.sm_seats.proofs.counts.first_too_many.Goals as goal

pub returns-then-entries-gt-MOST_SEAT_ENTRIES : goal.returns-then-entries-gt-MOST_SEAT_ENTRIES
returns-then-entries-gt-MOST_SEAT_ENTRIES c =
    let w = c.args.instance.now in
    let r = c.loop-r.r in
    let acceptable = c.acceptable_count-acceptable.result in
    let e : c.min-count.result * acceptable ≡ seat_entries w r = ap (λ n. n * acceptable) (count_is w r c.min-count.ensures c.capacity.ensures.capacity c.acceptable_count-acceptable.ensures.count) ∙ ap (λ n. seat_count w r * n) c.acceptable_count-acceptable.ensures.count in
    record {
      there = omega (arith, c.loop-r-test.true, c.reviewer_count-r-end.ensures.count);
      earlier = omega (arith, c.loop-r.invariant.entries, c.loop-r.invariant.few);
      past = omega (arith, seat_entries_before-suc w r, e, c.loop-r.invariant.entries, c.if-entries-gt-MOST_SEAT_ENTRIES.true);
    }

pub loop-r-preserved : goal.loop-r-preserved
loop-r-preserved c =
    let w = c.args.instance.now in
    let r = c.loop-r.r in
    let acceptable = c.acceptable_count-acceptable.result in
    let e : c.min-count.result * acceptable ≡ seat_entries w r = ap (λ n. n * acceptable) (count_is w r c.min-count.ensures c.capacity.ensures.capacity c.acceptable_count-acceptable.ensures.count) ∙ ap (λ n. seat_count w r * n) c.acceptable_count-acceptable.ensures.count in
    record {
      entries = omega (arith, seat_entries_before-suc w r, e, c.loop-r.invariant.entries);
      few = c.if-entries-gt-MOST_SEAT_ENTRIES.false;
    }

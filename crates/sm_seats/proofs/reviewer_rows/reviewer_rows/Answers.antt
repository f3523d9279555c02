use Rattle.std.proofs.Common.{ℕ, List, ◌+◌, ◌-◌, ◌<◌, length, get_or, map, replicate, sym, ap, ◌∙◌, arith}
use Rattle.std.specs.List.{flat_map, range_with_len}
use Rattle.std.proofs.lemmas.List.FromFn.{length-map-range_with_len, get_or-map-range_with_len}
use Rattle.sm_seats.specs.Mutual.{mutual_row}
use Rattle.sm_seats.specs.SeatMarket.{seats_before, named_seats}
use Rattle.sm_seats.specs.Tables.{lists_for, crosses_for, seat_crosses}
use Rattle.sm_seats.specs.Counted.{acceptable_at}
use Rattle.sm_lists.proofs.RangeLemmas.{range_more}
use Rattle.sm_seats.proofs.TableLemmas.{seats_read, seat_count-le}
use Rattle.sm_seats.proofs.RowLemmas.{piece_pushed}
use Rattle.sm_seats.proofs.CrossRows.{raised_crosses}
use Rattle.sm_seats.proofs.reviewer_rows.reviewer_rows.Goals as goal

pub loop-r-preserved : goal.loop-r-preserved
loop-r-preserved c =
    let w = c.args.instance.now in
    let r = c.loop-r.r in
    let before = c.loop-r.invariant in
    let there : r < length w.reviewers = omega (arith, c.loop-r-test.true, c.reviewer_count-reviewers.ensures.count) in
    let s = seats_read w r c.requires.firsts there in
    let all = sym (range_more 0 r r (omega arith)) in
    let firsts : List ℕ = c.args.counts.now.firsts.now in
    let size : ℕ = get_or firsts (r + 1) 0 - get_or firsts r 0 in
    record {
      seats = piece_pushed (named_seats w) (range_with_len 0 r) r _ _ _ before.seats c.in_ok-add_names.ensures (ap (λ (n : ℕ). map (λ (k : ℕ). (r, k)) (range_with_len 1 n)) s.count) ∙ ap (flat_map (named_seats w)) all;
      lists = piece_pushed (lists_for w) (range_with_len 0 r) r _ _ _ before.lists c.in_ok-add_lists.ensures (ap (λ n. replicate n (mutual_row w.reviewers w.proposers r)) s.count) ∙ ap (flat_map (lists_for w)) all;
      crosses = piece_pushed (crosses_for w) (range_with_len 0 r) r _ _ _ before.crosses c.in_ok-push_raised.ensures.pushed
          (raised_crosses w r size c.deref.result.now (c.deref.ensures.value ∙ c.in_ok-write_begins.ensures.begins) ∙ ap (λ n. map (seat_crosses w r) (range_with_len 0 n)) s.count) ∙ ap (flat_map (crosses_for w)) all;
    }

pub bounds-firsts-reviewers : goal.bounds-firsts-reviewers
bounds-firsts-reviewers c =
    let w = c.args.instance.now in
    let long = ap length c.requires.firsts ∙ length-map-range_with_len (seats_before w) 0 (length w.reviewers + 1) in
    omega (arith, long, c.reviewer_count-reviewers.ensures.count)

pub bounds-firsts-r : goal.bounds-firsts-r
bounds-firsts-r c = (seats_read c.args.instance.now c.loop-r.r c.requires.firsts (omega (arith, c.loop-r-test.true, c.reviewer_count-reviewers.ensures.count))).inside

pub bounds-firsts-r-in-loop-r : goal.bounds-firsts-r-in-loop-r
bounds-firsts-r-in-loop-r c = omega (arith, (seats_read c.args.instance.now c.loop-r.r c.requires.firsts (omega (arith, c.loop-r-test.true, c.reviewer_count-reviewers.ensures.count))).inside)

pub overflow_sub-count : goal.overflow_sub-count
overflow_sub-count c =
    let s = seats_read c.args.instance.now c.loop-r.r c.requires.firsts (omega (arith, c.loop-r-test.true, c.reviewer_count-reviewers.ensures.count)) in
    omega (arith, s.first, s.next)

pub add_names-requires : goal.add_names-requires
add_names-requires c =
    let s = seats_read c.args.instance.now c.loop-r.r c.requires.firsts (omega (arith, c.loop-r-test.true, c.reviewer_count-reviewers.ensures.count)) in
    omega (arith, s.count, seat_count-le c.reviewer_count-reviewers.ensures.instance c.loop-r.r)

pub bounds-acceptable-r : goal.bounds-acceptable-r
bounds-acceptable-r c =
    let w = c.args.instance.now in
    let long = ap length (c.as_slice-acceptable.ensures.value ∙ c.requires.acceptable) ∙ length-map-range_with_len (acceptable_at w) 0 (length w.reviewers) in
    omega (arith, long, c.loop-r-test.true, c.reviewer_count-reviewers.ensures.count)

pub add_lists-requires-clause-acceptable : goal.add_lists-requires-clause-acceptable
add_lists-requires-clause-acceptable c =
    let w = c.args.instance.now in
    let r = c.loop-r.r in
    ap (λ l. get_or l r 0) (c.as_slice-acceptable.ensures.value ∙ c.requires.acceptable) ∙ get_or-map-range_with_len (acceptable_at w) 0 (length w.reviewers) r r 0 (omega (arith, c.loop-r-test.true, c.reviewer_count-reviewers.ensures.count)) (omega arith)

pub push_raised-requires : goal.push_raised-requires
push_raised-requires c = record {
  small = λ i.
      let s = seats_read c.args.instance.now c.loop-r.r c.requires.firsts (omega (arith, c.loop-r-test.true, c.reviewer_count-reviewers.ensures.count)) in
      let small = c.in_ok-write_begins.ensures.small i in
      let same = ap (λ l. get_or l i 0) c.deref.ensures.value in
      omega (arith, small, same, s.count, seat_count-le c.reviewer_count-reviewers.ensures.instance c.loop-r.r);
}

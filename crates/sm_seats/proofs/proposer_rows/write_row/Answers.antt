use Rattle.std.proofs.Common.{◌≡◌, ℕ, ◌+◌, ◌-◌, ◌<◌, List, get_or, length, take, drop, replicate, sym, ap, ◌∙◌, arith}
use Rattle.std.specs.List.{flat_map}
use Rattle.std.proofs.lemmas.List.FromFn.{length-range_with_len}
use Rattle.sm_lists.specs.Rows.{place_on}
use Rattle.sm_agents.specs.Written.{row, entry}
use Rattle.sm_seats.specs.Mutual.{mutual_row}
use Rattle.sm_seats.specs.SeatMarket.{seat_count, seats_before, seats_at}
use Rattle.sm_seats.specs.Tables.{reviewers_before, crosses_at, mutual_before}
use Rattle.sm_seats.proofs.CrossLemmas.{cross_read, crossed_at, lists_back-none, back_more, back_same}
use Rattle.sm_seats.proofs.TableLemmas.{seats_read, seats_between, length-numbers, read_at, named_at, mutual_before_is}
use Rattle.sm_seats.proofs.RowLemmas.{piece_pushed}
use Rattle.sm_seats.proofs.proposer_rows.write_row.Goals as goal
use Rattle.sm_seats.proofs.proposer_rows.write_row.Goals.{in-Some+in_ok-add, in_default}

pub bounds-firsts-r : goal.bounds-firsts-r
bounds-firsts-r c = omega (arith, (read_at c.args.instance.now c.args.p c.loop-place.place c.proposer_len-place-end.ensures.instance c.requires.firsts c.proposer_list-written.ensures (omega (arith, c.loop-place-test.true))).inside)

pub bounds-firsts-r-in-Some : goal.bounds-firsts-r-in-Some
bounds-firsts-r-in-Some c = (read_at c.args.instance.now c.args.p c.loop-place.place c.proposer_len-place-end.ensures.instance c.requires.firsts c.proposer_list-written.ensures (omega (arith, c.loop-place-test.true))).inside

pub mutual_place-requires-clause-in_range : goal.mutual_place-requires-clause-in_range
mutual_place-requires-clause-in_range c = (named_at c.args.instance.now c.args.p c.loop-place.place c.proposer_len-place-end.ensures.instance c.proposer_list-written.ensures (omega (arith, c.loop-place-test.true))).1

pub mutual_place-requires-clause-on_list : goal.mutual_place-requires-clause-on_list
mutual_place-requires-clause-on_list c =
    let w = c.args.instance.now in
    let who = named_at c.args.instance.now c.args.p c.loop-place.place c.proposer_len-place-end.ensures.instance c.proposer_list-written.ensures (omega (arith, c.loop-place-test.true)) in
    let on : c.loop-place.place < length (row w.proposers c.args.p) = omega (arith, c.loop-place-test.true) in
    let it = crossed_at c.proposer_len-place-end.ensures.instance.proposer_entries on (cross_read c.proposer_crosses-written_crosses.ensures on c.index-written_crosses-place.is c.place.ensures) c.in-Some.is in
    let named = ap (λ x. length (row w.reviewers x)) who.0 in
    omega (arith, named, it.back, it.mutual_.listed)

pub slice_bounds-add-count : goal.slice_bounds-add-count
slice_bounds-add-count c =
    let s = (read_at c.args.instance.now c.args.p c.loop-place.place c.proposer_len-place-end.ensures.instance c.requires.firsts c.proposer_list-written.ensures (omega (arith, c.loop-place-test.true))) in
    omega (arith, s.first, s.next)

pub slice_bounds-add-start : goal.slice_bounds-add-start
slice_bounds-add-start c =
    let s = (read_at c.args.instance.now c.args.p c.loop-place.place c.proposer_len-place-end.ensures.instance c.requires.firsts c.proposer_list-written.ensures (omega (arith, c.loop-place-test.true))) in
    omega (arith, s.first, s.next)

pub slice_bounds-add-end : goal.slice_bounds-add-end
slice_bounds-add-end c =
    let s = (read_at c.args.instance.now c.args.p c.loop-place.place c.proposer_len-place-end.ensures.instance c.requires.firsts c.proposer_list-written.ensures (omega (arith, c.loop-place-test.true))) in
    omega (arith, s.within, length-numbers c.args.instance.now c.as_slice-numbers.result.now (c.as_slice-numbers.ensures.value ∙ c.requires.numbers))

pub loop-place-preserved : goal.loop-place-preserved
loop-place-preserved c =
    let w = c.args.instance.now in
    let p = c.args.p in
    let i = c.loop-place.place in
    let x : ℕ = entry w.proposers p i in
    let on : i < length (row w.proposers p) = omega (arith, c.loop-place-test.true) in
    let before = c.loop-place.invariant in
    let xs : List ℕ = reviewers_before w p i in
    let who = named_at w p i c.proposer_len-place-end.ensures.instance c.proposer_list-written.ensures on in
    let read = cross_read c.proposer_crosses-written_crosses.ensures on c.index-written_crosses-place.is c.place.ensures in
    let r : ℕ = get_or c.proposer_list-written.result.now i 0 in
    elim c.match-place.branch [
      | in-Some+in_ok-add b ↦
          let it = crossed_at c.proposer_len-place-end.ensures.instance.proposer_entries on read b.in-Some.is in
          let more = back_more w.proposers w.reviewers p i on it.passes in
          let s = seats_read w r c.requires.firsts who.1 in
          let from : ℕ = get_or c.args.counts.now.firsts.now r 0 in
          let size : ℕ = get_or c.args.counts.now.firsts.now (r + 1) 0 - from in
          let seats : take size (drop from c.as_slice-numbers.result.now) ≡ seats_at w x =
          seats_between w c.as_slice-numbers.result.now r (c.as_slice-numbers.ensures.value ∙ c.requires.numbers) s ∙ ap (seats_at w) who.0 in
          let count = length-range_with_len (seats_before w x) (seat_count w x) in
          let cross : b.mutual_place.result ≡ place_on (mutual_row w.reviewers w.proposers x) p =
          b.mutual_place.ensures
          ∙ ap (λ y. mutual_before w y b.in-Some.back) who.0 ∙ ap (mutual_before w x) (sym it.back) ∙ mutual_before_is w it.mutual_ in
          let e = b.in_ok-add.ensures in
          record {
            lists = rw b.writer-is (e.lists ∙ before.lists);
            crosses = rw b.writer-is (e.crosses ∙ before.crosses);
            list = rw b.writer-is (piece_pushed (seats_at w) xs x _ _ _ before.list e.list seats ∙ ap (flat_map (seats_at w)) (sym more));
            list_crosses = rw b.writer-is (piece_pushed (crosses_at w p) xs x _ _ _ before.list_crosses e.list_crosses (ap (λ (l : List ℕ). replicate (length l) b.mutual_place.result) seats ∙ ap (λ n. replicate n b.mutual_place.result) count ∙ ap (replicate (seat_count w x)) cross) ∙ ap (flat_map (crosses_at w p)) (sym more));
          }
      | in_default b ↦
          let none_ = lists_back-none w.proposers w.reviewers p i read b.in_default.is in
          let same = back_same w.proposers w.reviewers p i on none_ in
          record {
            lists = rw b.writer-is before.lists;
            crosses = rw b.writer-is before.crosses;
            list = rw b.writer-is (before.list ∙ ap (flat_map (seats_at w)) (sym same));
            list_crosses = rw b.writer-is (before.list_crosses ∙ ap (flat_map (crosses_at w p)) (sym same));
          }
    ]

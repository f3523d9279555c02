use Rattle.std.proofs.Common.{◌≡◌, ◌+◌, ◌∙◌, ap, arith, length, get_or}
use Rattle.std.specs.List.{range_with_len}
use Rattle.std.proofs.lemmas.List.FromFn.{length-map-range_with_len}
use Rattle.sm_seats.specs.SeatMarket.{seats_before}
use Rattle.sm_seats.proofs.TableLemmas.{first_seat_at}
use Rattle.sm_seats.proofs.entry_counts.entry_counts.Goals as goal

pub bounds-firsts-reviewers : goal.bounds-firsts-reviewers
bounds-firsts-reviewers c =
    let w = c.args.instance.now in
    let long = ap length c.requires.firsts ∙ length-map-range_with_len (seats_before w) 0 (length w.reviewers + 1) in
    omega (arith, long, c.reviewer_count-reviewers.ensures.count)

pub returns : goal.returns
returns c =
    let w = c.args.instance.now in
    let reviewers = c.reviewer_count-reviewers.result in
    let seats : get_or c.args.firsts.now reviewers 0 ≡ seats_before w (length w.reviewers) =
    ap (λ l. get_or l reviewers 0) c.requires.firsts ∙ first_seat_at w reviewers (omega (arith, c.reviewer_count-reviewers.ensures.count)) ∙ ap (seats_before w) c.reviewer_count-reviewers.ensures.count in
    record {
      firsts = c.requires.firsts;
      numbers = c.in_ok-first_numbers.ensures ∙ ap (range_with_len 0) seats;
      acceptable = c.in_ok-entries.ensures.acceptable;
      entries = c.in_ok-entries.ensures.entries;
    }

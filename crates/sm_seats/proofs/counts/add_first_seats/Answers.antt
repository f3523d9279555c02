use Rattle.std.proofs.Common.{◌≡◌, ℕ, ◌+◌, ◌++◌, ◌∷◌, [], List, ◌∙◌, sym, ap, map, arith, length}
use Rattle.std.specs.List.{range_with_len}
use Rattle.std.proofs.lemmas.List.FromFn.{map-range_with_len_more}
use Rattle.sm_seats.specs.SeatMarket.{seats_before}
use Rattle.sm_seats.proofs.SeatLemmas.{seats_before_more}
use Rattle.sm_seats.proofs.counts.add_first_seats.Goals as goal

pub loop-r-preserved : goal.loop-r-preserved
loop-r-preserved c =
    let w = c.args.instance.now in
    let r = c.loop-r.r in
    let seats = c.in_ok-seats.ensures.seats in
    record {
      firsts = c.in_ok-push.ensures.items ∙ ap (λ (front : List ℕ). front ++ c.loop-r.seats ∷ []) c.loop-r.invariant.firsts
          ∙ ap (λ (n : ℕ). map (seats_before w) (range_with_len 0 r) ++ n ∷ []) c.loop-r.invariant.seats
          ∙ sym (map-range_with_len_more (seats_before w) 0 r r (omega arith));
      seats = omega (arith, seats_before_more w r, seats, c.loop-r.invariant.seats);
      seats_fit = omega (arith, c.loop-r.invariant.seats_fit, c.in_ok-seats.ensures.fits);
      searched = c.seats_at.ensures.same ∙ c.loop-r.invariant.searched;
    }

pub returns : goal.returns
returns c =
    let w = c.args.instance.now in
    let r = c.loop-r.r in
    let end : r ≡ length w.reviewers = omega (arith, c.loop-r-test.false, c.reviewer_count-r-end.ensures.count) in
    c.in_ok-push-2.ensures.items ∙ ap (λ (front : List ℕ). front ++ c.loop-r.seats ∷ []) c.loop-r.invariant.firsts
    ∙ ap (λ (n : ℕ). map (seats_before w) (range_with_len 0 r) ++ n ∷ []) c.loop-r.invariant.seats
    ∙ sym (map-range_with_len_more (seats_before w) 0 r r (omega arith))
    ∙ ap (λ n. map (seats_before w) (range_with_len 0 (n + 1))) end

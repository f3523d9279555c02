use Rattle.std.proofs.Common.{◌≡◌, ◌+◌, length, get_or, ap, ◌∙◌, arith, inl, inr}
use Rattle.std.proofs.lemmas.Bool.{cases_lt}
use Rattle.sm_seats.specs.SeatMarket.{seat_count, seats_before}
use Rattle.sm_seats.proofs.SeatLemmas.{has_seats, seats_end}
use Rattle.sm_seats.proofs.TableLemmas.{first_seat_at, seats_read}
use Rattle.sm_answer_solve.proofs.seat_holders.free_seats.Goals as goal

pub bounds-firsts-r : goal.bounds-firsts-r
bounds-firsts-r c = let s = seats_read c.args.instance.now c.loop-r.r c.requires.firsts (omega (arith, c.loop-r-test.true, c.reviewer_count-r-end.ensures.count)) in omega (arith, s.inside)

pub bounds-firsts-r-in-loop-r : goal.bounds-firsts-r-in-loop-r
bounds-firsts-r-in-loop-r c = (seats_read c.args.instance.now c.loop-r.r c.requires.firsts (omega (arith, c.loop-r-test.true, c.reviewer_count-r-end.ensures.count))).inside

pub fill_between-requires : goal.fill_between-requires
fill_between-requires c =
    let w = c.args.instance.now in
    let s = seats_read w c.loop-r.r c.requires.firsts (omega (arith, c.loop-r-test.true, c.reviewer_count-r-end.ensures.count)) in
    let all = ap (λ l. get_or l (length w.reviewers) 0) c.requires.firsts ∙ first_seat_at w (length w.reviewers) (omega arith) in
    omega (arith, s.within, all, c.requires.seats, c.loop-r.invariant.one_each)

pub loop-r-preserved : goal.loop-r-preserved
loop-r-preserved c =
    let w = c.args.instance.now in
    let r = c.loop-r.r in
    let s = seats_read w r c.requires.firsts (omega (arith, c.loop-r-test.true, c.reviewer_count-r-end.ensures.count)) in
    record {
      one_each = c.fill_between.ensures.as_long ∙ c.loop-r.invariant.one_each;
      free = λ t k lt below. elim (cases_lt t r) [
        | inl before ↦ c.fill_between.ensures.before (seats_before w t + k) (omega (arith, s.first, seats_end w t r before, below)) ∙ c.loop-r.invariant.free t k before below
        | inr ge ↦
            let same : r ≡ t = omega (arith, lt, ge) in
            let first = ap (seats_before w) same in
            let count = ap (seat_count w) same in
            c.fill_between.ensures.filled (seats_before w t + k) (omega (arith, s.first, first)) (omega (arith, s.next, first, count, below)) ∙ c.reviewer_len.ensures.length ∙ ap (λ x. length (Rattle.sm_agents.specs.Written.row w.reviewers x)) same
      ];
    }

pub returns : goal.returns
returns c =
    let w = c.args.instance.now in
    let all = ap (λ l. get_or l (length w.reviewers) 0) c.requires.firsts ∙ first_seat_at w (length w.reviewers) (omega arith) in
    record {
      one_each = c.loop-r.invariant.one_each ∙ c.requires.seats ∙ all;
      free = λ r k below. c.loop-r.invariant.free r k (omega (arith, has_seats w r k below, c.loop-r-test.false, c.reviewer_count-r-end.ensures.count)) below;
    }

use Rattle.sm_seats.specs.SeatEntries.{IsFirstTooMany}
use Rattle.sm_seats.proofs.LimitLaws.{first_too_many-none}
use Rattle.sm_serve.proofs.SeatLemmas.{too_many_at, line_read}
use Rattle.sm_serve.proofs.seats.counts_of.Goals as goal

pub returns-in-Ok-clause-none : goal.returns-in-Ok-clause-none
returns-in-Ok-clause-none c = first_too_many-none c.args.instance.now c.in-Ok.ensures.few

pub returns-in-Err-TooManySeats-clause-stop : goal.returns-in-Err-TooManySeats-clause-stop
returns-in-Err-TooManySeats-clause-stop c =
    let w = c.args.instance.now in
    let first : IsFirstTooMany w c.in-Err-TooManySeats.r = rw c.in-Err-TooManySeats.field-0-is at c.in-Err-TooManySeats.ensures.fault in
    too_many_at w c.in-Err-TooManySeats.r _ first (line_read c.reviewers.result.now w.reviewers c.in-Err-TooManySeats.r c.index-reviewers-r.result c.reviewers.ensures.agents first.there)

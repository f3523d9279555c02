use Rattle.std.proofs.Common.{sym, ◌∙◌, inl, inr}
use Rattle.std.proofs.lemmas.Bool.{cases_lt, eq-eqb, false≢true}
use Rattle.sm_instance.proofs.AcceptLemmas.{lt_true}
use Rattle.sm_seats.specs.SeatMarket.{seat_count}
use Rattle.sm_seats.proofs.FullLemmas.{named_there}
use Rattle.sm_seats.proofs.taking.is_seat_of.Goals as goal

pub returns-then-seat-seats : goal.returns-then-seat-seats
returns-then-seat-seats g c e k at = elim (cases_lt k (seat_count g.written c.args.r)) [
  | inl less ↦ absurd (false≢true (sym e ∙ eq-eqb _ _ (named_there g.written c.args.seats.now c.args.seat c.args.r k c.requires at less).1))
  | inr past ↦ past
]

pub returns-else-seat-seats : goal.returns-else-seat-seats
returns-else-seat-seats g c e k at = elim (cases_lt k (seat_count g.written c.args.r)) [
  | inl less ↦ absurd (false≢true (sym e ∙ lt_true _ _ (named_there g.written c.args.seats.now c.args.seat c.args.r k c.requires at less).0))
  | inr past ↦ past
]

use Rattle.std.proofs.Common.{◌+◌, ◌-◌, arith, ap}
use Rattle.sm_check_forms.proofs.SeatLemmas.{firsts_long, number_is, number_below, number_there, seat_bounds}
use Rattle.sm_check_forms.proofs.numbering.seat_number.Goals as goal

pub bounds-firsts-seat : goal.bounds-firsts-seat
bounds-firsts-seat c = omega (arith, c.requires.there, firsts_long c.args.instance.now c.args.firsts.now c.requires.firsts c.args.seat.reviewer c.requires.there)

pub overflow_add-result : goal.overflow_add-result
overflow_add-result c =
    let b = seat_bounds c.args.instance.now c.args.seat c.requires.seat in
    let next = c.type_inv.firsts (c.args.seat.reviewer + 1) in
    let below = number_below c.args.instance.now c.args.firsts.now c.requires.firsts c.args.seat.reviewer c.requires.there c.args.seat.number b.0 b.1 in
    omega (arith, below, next)

pub returns-clause-number : goal.returns-clause-number
returns-clause-number c = ap (λ n. n + (c.args.seat.number - 1)) (number_is c.args.instance.now c.args.firsts.now c.requires.firsts c.args.seat.reviewer c.requires.there)

pub returns-clause-in_range : goal.returns-clause-in_range
returns-clause-in_range c =
    let b = seat_bounds c.args.instance.now c.args.seat c.requires.seat in
    number_there c.args.instance.now c.args.firsts.now c.requires.firsts c.args.seat.reviewer c.requires.there c.args.seat.number b.0 b.1

use Rattle.std.proofs.Common.{arith}
use Rattle.sm_check_forms.proofs.SeatLemmas.{firsts_long, seats_between}
use Rattle.sm_check_forms.proofs.forms.seat_count.Goals as goal

pub bounds-firsts-r : goal.bounds-firsts-r
bounds-firsts-r c = omega (arith, c.requires.there, firsts_long c.args.instance.now c.args.firsts.now c.requires.firsts c.args.r c.requires.there)

pub bounds-firsts-r-2 : goal.bounds-firsts-r-2
bounds-firsts-r-2 c = omega (arith, c.requires.there, firsts_long c.args.instance.now c.args.firsts.now c.requires.firsts c.args.r c.requires.there)

pub overflow_sub-result : goal.overflow_sub-result
overflow_sub-result c = omega (arith, seats_between c.args.instance.now c.args.firsts.now c.requires.firsts c.args.r c.requires.there)

pub returns : goal.returns
returns c = omega (arith, seats_between c.args.instance.now c.args.firsts.now c.requires.firsts c.args.r c.requires.there)

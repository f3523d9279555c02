use Rattle.std.proofs.Common.{refl}
use Rattle.sm_check_roommates.proofs.CoupleLemmas.{stands, coupled}
use Rattle.sm_check_roommates.proofs.couples.couples.Goals as goal

pub returns-then-is_some : goal.returns-then-is_some
returns-then-is_some c = λ pairs k free. free.first_free (stands k c.args.x c.requires.first c.if-is_some.ensures)

pub returns-then-is_some-2 : goal.returns-then-is_some-2
returns-then-is_some-2 c = λ pairs k free. free.second_free (stands k c.args.y c.requires.second c.if-is_some-2.ensures)

pub returns : goal.returns
returns c = λ pairs k.
    coupled k c.args.x c.args.y c.requires.first c.requires.second c.if-is_some.ensures c.if-is_some-2.ensures (c.if-not-is_acceptable.ensures.0 refl)

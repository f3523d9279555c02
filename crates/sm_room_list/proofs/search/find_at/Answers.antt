use Rattle.std.proofs.Common.{refl}
use Rattle.sm_room_list.proofs.search.find_at.Goals as goal

pub go_above-requires-clause-tops : goal.go_above-requires-clause-tops
go_above-requires-clause-tops c = rw (c.in_ok-tops.ensures.tops, c.in_ok-tops.ensures.passed) c.requires.tops

pub go_above-requires-clause-all : goal.go_above-requires-clause-all
go_above-requires-clause-all c = rw c.in_ok-tops.ensures.tops c.requires.all

pub returns-then-not-riser : goal.returns-then-not-riser
returns-then-not-riser c = c.requires.riser c.if-not-riser.true

pub returns-then-not-go_above : goal.returns-then-not-go_above
returns-then-not-go_above c = c.go_above.ensures.none c.if-not-go_above.true

pub returns-in_default : goal.returns-in_default
returns-in_default c = λ w r above. let b = (c.go_above.ensures.above c.if-not-go_above.false).all w r above in let none = rw c.in_default.is at c.in_ok-vector.ensures in none b.matching b.within

pub returns : goal.returns
returns c = let here = rw c.in-Some.is at c.in_ok-vector.ensures in (refl, record { kept = c.go_above.ensures.tops; here = here }, c.go_above.ensures.above c.if-not-go_above.false)

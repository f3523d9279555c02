use Rattle.std.proofs.Common.{arith}
use Rattle.std.proofs.lemmas.Bool.{ltb-false}
use Rattle.sm_room.proofs.RotateLemmas.{short_unless, short_two}
use Rattle.sm_room.proofs.hints.has_three.Goals as goal

pub returns-in-Some-clause-short : goal.returns-in-Some-clause-short
returns-in-Some-clause-short c = λ e. let s = c.in-Some.ensures.second in short_two s.second (omega (arith, s.at, ltb-false _ _ e))

pub returns-in-None-clause-short : goal.returns-in-None-clause-short
returns-in-None-clause-short c = λ e. short_unless c.args.bounds.now c.args.x (λ t. absurd (c.in-None.ensures.second t.next t.second))

use Rattle.std.proofs.Common.{length, arith, ap}
use Rattle.sm_market.specs.Lists.{Lists}
use Rattle.sm_seats.proofs.MarketLaws.{length-proposers}
use Rattle.sm_check_clauses.specs.Said.{firsts_in}
use Rattle.sm_check_clauses.proofs.WalkLemmas.{head_line, first_line}
use Rattle.sm_check_answers.proofs.rotations.RotationsJudge.first_fault.Goals as goal

pub add-requires-clause-proposer : goal.add-requires-clause-proposer
add-requires-clause-proposer c =
    let own = rw c.in-First.is at c.requires.own.right.printable in
    let there = own.0 in
    omega (arith, there, ap (λ (l : Lists). length l.proposers) c.requires.market, length-proposers c.args.self.now.instance.now)

pub returns-in-Answer-clause-found : goal.returns-in-Answer-clause-found
returns-in-Answer-clause-found c = λ above k. rw (c.in-Answer.is, c.requires.no_walk) (head_line k _)

pub returns-else-not-add-clause-found : goal.returns-else-not-add-clause-found
returns-else-not-add-clause-found c = λ above k.
    rw (c.in-First.is, c.requires.no_walk)
    (first_line k c.in-First.p c.in-First.seat c.seat_number-number.result c.seat_number-number.ensures.number c.add.new.self
    ((rw c.requires.market at c.if-not-add.ensures) (firsts_in c.args.self.now.instance.now above) k.kept))

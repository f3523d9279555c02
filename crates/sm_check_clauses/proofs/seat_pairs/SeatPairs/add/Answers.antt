use Rattle.std.proofs.Common.{◌<◌, ◌∙◌, length, false, refl, sym, arith}
use Rattle.std.proofs.lemmas.List.{get_or_default}
use Rattle.sm_holding.proofs.HoldingLemmas.{some_there, none_there}
use Rattle.sm_check_clauses.proofs.SeatPairLemmas.{takes, not_alone}
use Rattle.sm_check_clauses.proofs.seat_pairs.SeatPairs.add.Goals as goal

pub returns-then-is_some : goal.returns-then-is_some
returns-then-is_some c = λ pairs k.
    let inside : c.args.p < length c.args.self.now.places.items = (let one = c.requires.one_each in omega (arith, one, c.requires.proposer)) in
    not_alone k c.args.p c.args.seat c.requires.proposer c.requires.seat (some_there c.args.self.now.places.items c.args.p c.index.result.now inside c.index.ensures (sym c.if-is_some.ensures))

pub returns : goal.returns
returns c = λ pairs k.
    let inside : c.args.p < length c.args.self.now.places.items = (let one = c.requires.one_each in omega (arith, one, c.requires.proposer)) in
    let there : c.args.seat < length c.args.self.now.taken.items = (let one = c.requires.seats_each in omega (arith, one, c.requires.seat)) in
    takes k c.args.p c.args.seat c.requires.proposer c.requires.seat _ c.in-Some.place c.in-Some.ensures.0 c.in-Some.ensures.1
    (none_there c.args.self.now.places.items c.args.p c.index.result.now inside c.index.ensures (sym c.if-is_some.ensures))
    (sym (get_or_default c.args.self.now.taken.items c.args.seat c.index-2.result.now false there) ∙ sym c.index-2.ensures ∙ c.if-index.false)
    refl refl

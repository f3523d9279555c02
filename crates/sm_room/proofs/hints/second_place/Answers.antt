use Rattle.std.proofs.Common.{◌≡◌, get_or, arith, ◌∙◌}
use Rattle.std.proofs.lemmas.Grind.{get_or_default_zero}
use Rattle.sm_room.specs.Rotating.{IsLeftFrom}
use Rattle.sm_room.proofs.FromLemmas.{second_at}
use Rattle.sm_room.proofs.hints.second_place.Goals as goal

pub returns-clause-second : goal.returns-clause-second
returns-clause-second c =
    let firsts = c.args.hints.now.firsts.items in
    let seconds = c.args.hints.now.seconds.items in
    let one : c.index.result.now ≡ get_or firsts c.args.x 0 = c.index.ensures ∙ get_or_default_zero firsts c.args.x c.index.result.now (omega (arith, c.requires.hints.first_each, c.requires.in_range)) in
    let two : c.index-2.result.now ≡ get_or seconds c.args.x 0 = c.index-2.ensures ∙ get_or_default_zero seconds c.args.x c.index-2.result.now (omega (arith, c.requires.hints.second_each, c.requires.in_range)) in
    let f : IsLeftFrom c.args.market.now c.args.bounds.now c.args.x (get_or firsts c.args.x 0) c.in-Some.first = rw one at c.in-Some.ensures.first in
    let is = rw two at c.max-from.ensures in
    second_at c.requires.hints c.in-Some.ensures.lists f is c.in-Some-left_from.ensures.first

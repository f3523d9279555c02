use Rattle.std.proofs.Common.{◌+◌, ◌∙◌, sym, ap, arith}
use Rattle.sm_agents.specs.Written.{row}
use Rattle.sm_lists.proofs.FoundLemmas.{found_on-some, place_on-unfound}
use Rattle.sm_seats.proofs.leveling.level_of.Goals as goal

pub overflow_add-result : goal.overflow_add-result
overflow_add-result c =
    let found = found_on-some (row c.args.instance.now.proposers c.args.p) c.args.r c.in-Some.place (sym c.place.ensures ∙ c.in-Some.is) in
    omega (arith, found.1, c.proposer_len-past.ensures.length, c.proposer_len-past.ensures.fits)

pub returns-in-Some : goal.returns-in-Some
returns-in-Some c =
    let found = found_on-some (row c.args.instance.now.proposers c.args.p) c.args.r c.in-Some.place (sym c.place.ensures ∙ c.in-Some.is) in
    ap (λ i. i + 1) (sym found.0)

pub returns-in-None : goal.returns-in-None
returns-in-None c =
    let unfound = place_on-unfound (row c.args.instance.now.proposers c.args.p) c.args.r (sym (sym c.place.ensures ∙ c.in-None.is)) in
    omega (arith, unfound, c.proposer_len-past.ensures.length)

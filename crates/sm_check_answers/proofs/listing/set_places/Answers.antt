use Rattle.std.proofs.Common.{◌≡◌, arith, length, subst}
use Rattle.sm_check_answers.specs.Listing.{ArePlaced}
use Rattle.sm_check_answers.proofs.VectorLemmas.{places_are, ranks_to, ranks_from, assigned}
use Rattle.sm_check_answers.proofs.listing.set_places.Goals as goal

pub returns-clause-places : goal.returns-clause-places
returns-clause-places c =
    let all : c.loop-p.p ≡ length c.args.instance.now.proposers = omega (arith, c.loop-p-test.false, c.loop-p.auto.p-end, c.proposer_count-p-end.ensures.count) in
    places_are c.args.instance.now c.args.v.now c.loop-p.a.places.items c.loop-p.are_ranks (subst (λ n. ArePlaced c.args.instance.now c.args.v.now n c.loop-p.a.places.items c.loop-p.are_ranks) all c.loop-p.invariant)

pub returns-clause-ranks : goal.returns-clause-ranks
returns-clause-ranks c =
    let all : c.loop-p.p ≡ length c.args.instance.now.proposers = omega (arith, c.loop-p-test.false, c.loop-p.auto.p-end, c.proposer_count-p-end.ensures.count) in (
      (λ t. ranks_to c.args.instance.now c.args.v.now c.requires.one_each (λ q h. c.loop-p.invariant.ranks.0 t q (omega (arith, h, all)))),
      (λ e. c.loop-p.invariant.ranks.1 (λ q h. ranks_from c.args.instance.now c.args.v.now e q (omega (arith, h, all)))),
    )

pub returns-clause-assigned : goal.returns-clause-assigned
returns-clause-assigned c =
    let all : c.loop-p.p ≡ length c.args.instance.now.proposers = omega (arith, c.loop-p-test.false, c.loop-p.auto.p-end, c.proposer_count-p-end.ensures.count) in
    λ t. assigned c.args.instance.now c.args.v.now (λ q h. c.loop-p.invariant.ranks.0 t q (omega (arith, h, all)))

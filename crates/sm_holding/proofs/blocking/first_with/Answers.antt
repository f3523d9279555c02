use Rattle.std.proofs.Common.{ℕ, ◌<◌, length, subst, arith}
use Rattle.std.specs.Prelude.{slice_index}
use Rattle.sm_agents.specs.Written.{row}
use Rattle.sm_instance.specs.Stable.{IsGainLimit}
use Rattle.sm_instance.proofs.BlockLemmas.{blocks_by}
use Rattle.sm_holding.proofs.GainLemmas.{blocks_none, first_here, standing_on}
use Rattle.sm_holding.proofs.blocking.first_with.Goals as goal

pub returns-then-back-limits : goal.returns-then-back-limits
returns-then-back-limits c =
    let w = c.args.instance.now in
    let p = c.args.p in
    let place = c.loop-place.place in
    let r = c.reviewer_at-r.result in
    let inst = c.standing-place-end.ensures.instance in
    let named = c.reviewer_at-r.ensures.named in
    let stands = c.standing-place-end.ensures.standing in
    let few = standing_on c.requires.matching p in
    let on : place < length (row w.proposers p) = omega (arith, stands, few, c.loop-place-test.true) in
    let Q : ℕ → Type 0 = λ s. IsGainLimit w c.args.a.now.places.items s (slice_index c.args.limits.now r) in
    let limit = subst Q named (c.requires.limits.each r c.reviewer_at-r.ensures.in_range) in
    let both = blocks_by inst p place c.in-Some.back (slice_index c.args.limits.now r) on c.in-Some.ensures.cross limit in
    rw named (first_here inst p place on c.loop-place.invariant (both.0 c.if-back-limits.true (omega (arith, stands, c.loop-place-test.true))))

pub returns : goal.returns
returns c = blocks_none c.args.p c.loop-place.place (omega (arith, c.standing-place-end.ensures.standing, c.loop-place-test.false)) c.loop-place.invariant

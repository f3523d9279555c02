use Rattle.std.proofs.Common.{◌<◌, length, ap, ◌∙◌, arith}
use Rattle.sm_holding.proofs.HoldingLemmas.{loads_long, load_is}
use Rattle.sm_holding.proofs.GainLemmas.{limits_free, limits_full}
use Rattle.sm_holding.proofs.blocking.gain_limits.Goals.{then-index-capacity, else-index-capacity}
use Rattle.sm_holding.proofs.blocking.gain_limits.Goals as goal

pub index-requires : goal.index-requires
index-requires c =
    let long = ap length c.requires.loads ∙ loads_long c.args.instance.now c.args.holding.now.matching.places.items in
    omega (arith, long, c.loop-r-test.true, c.reviewer_count-r-end.ensures.count)

pub loop-r-preserved : goal.loop-r-preserved
loop-r-preserved c =
    let w = c.args.instance.now in
    let places = c.args.holding.now.matching.places.items in
    let r = c.loop-r.r in
    let inside : r < length w.reviewers = omega (arith, c.loop-r-test.true, c.reviewer_count-r-end.ensures.count) in
    let load = load_is w places c.args.holding.now.loads.items r c.index.result.now c.requires.loads inside c.index.ensures in
    elim c.if-index-capacity.branch [
      | then-index-capacity v ↦ rw v.limits-is (limits_free c.loop-r.invariant inside (omega (arith, load, v.if-index-capacity.true, c.capacity.ensures.capacity)) v.reviewer_len.result v.reviewer_len.ensures.length)
      | else-index-capacity v ↦ rw v.limits-is (limits_full c.requires.matching c.loop-r.invariant (λ less. omega (arith, load, less, v.if-index-capacity.false, c.capacity.ensures.capacity)))
    ]

use Rattle.std.proofs.Common.{◌^◌, ◌≡◌, ℕ, ◌<◌, ◌≤◌, arith, sym, ap, ◌∙◌, Some, length}
use Rattle.std.specs.Int.RustNames.{unsigned_abs}
use Rattle.sm_market.specs.Matching.{held}
use Rattle.sm_theory.specs.Weights.{weight_at, weight_of_place}
use Rattle.sm_weight.specs.Sizes.{weights_in, place_weights}
use Rattle.sm_theory.proofs.Weighing.Sizes.{small_is}
use Rattle.sm_weight.proofs.GainLemmas.{some_in_range}
use Rattle.sm_weight.proofs.SizeLemmas.{weight_long, weight_read}
use Rattle.sm_weight.proofs.gains.weight_of.Goals as goal

pub index-requires : goal.index-requires
index-requires c =
    let p : ℕ = c.args.p in
    let there : held c.args.m.now.places.proposers p ≡ Some c.unwrap-place.result = sym c.place.ensures ∙ c.unwrap-place.ensures in
    omega (arith, weight_long c.args.weights.now p c.index-weights-p.result (omega (arith, some_in_range c.args.m.now.places.proposers p c.requires.matched, c.requires.each)) c.index-weights-p.is, c.requires.places p c.unwrap-place.result there, c.index-weights-p.result.ok.0)

pub returns-clause-weight : goal.returns-clause-weight
returns-clause-weight c =
    let p : ℕ = c.args.p in
    let there : held c.args.m.now.places.proposers p ≡ Some c.unwrap-place.result = sym c.place.ensures ∙ c.unwrap-place.ensures in
    let less : p < length c.args.weights.now = omega (arith, some_in_range c.args.m.now.places.proposers p c.requires.matched, c.requires.each) in
    let on : c.unwrap-place.result < length (place_weights (weights_in c.args.weights.now) p) = c.requires.places p c.unwrap-place.result there in
    let read : c.index.result.now ≡ weight_at (weights_in c.args.weights.now) p c.unwrap-place.result =
    weight_read c.args.weights.now p c.unwrap-place.result c.index-weights-p.result c.index.result.now less c.index-weights-p.is (omega (arith, weight_long c.args.weights.now p c.index-weights-p.result less c.index-weights-p.is)) c.index.ensures in
    let small : unsigned_abs c.index.result.now ≤ 2 ^ 30 = rw read (c.requires.small p c.unwrap-place.result on) in
    let is = small_is c.index.result.now small in
    is ∙ read ∙ ap (weight_of_place (weights_in c.args.weights.now) p) (sym there)

pub returns-clause-small : goal.returns-clause-small
returns-clause-small c =
    let p : ℕ = c.args.p in
    let there : held c.args.m.now.places.proposers p ≡ Some c.unwrap-place.result = sym c.place.ensures ∙ c.unwrap-place.ensures in
    let less : p < length c.args.weights.now = omega (arith, some_in_range c.args.m.now.places.proposers p c.requires.matched, c.requires.each) in
    let on : c.unwrap-place.result < length (place_weights (weights_in c.args.weights.now) p) = c.requires.places p c.unwrap-place.result there in
    let read : c.index.result.now ≡ weight_at (weights_in c.args.weights.now) p c.unwrap-place.result =
    weight_read c.args.weights.now p c.unwrap-place.result c.index-weights-p.result c.index.result.now less c.index-weights-p.is (omega (arith, weight_long c.args.weights.now p c.index-weights-p.result less c.index-weights-p.is)) c.index.ensures in
    let small : unsigned_abs c.index.result.now ≤ 2 ^ 30 = rw read (c.requires.small p c.unwrap-place.result on) in
    let is = small_is c.index.result.now small in
    rw is small

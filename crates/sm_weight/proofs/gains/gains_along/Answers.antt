use Rattle.std.proofs.Common.{◌≡◌, ℕ, suc, ◌+◌, ◌*◌, ◌^◌, ◌<◌, ◌≤◌, ◌++◌, ◌∷◌, [], arith, sym, ap, ◌∙◌, List, length, ℤ, to_z, of_z, w64}
use Rattle.std.specs.List.{sum_by}
use Rattle.std.specs.Int.RustNames.{unsigned_abs}
use Rattle.std.proofs.lemmas.Int.{to_z-of_z, fits_signed_from_abs}
use Rattle.std.proofs.lemmas.List.{map_more}
use Rattle.std.proofs.lemmas.List.Sums.{sum_by_push}
use Rattle.sm_lists.specs.Sums.{sum_to}
use Rattle.sm_theory.specs.Chains.{rotation_at}
use Rattle.sm_theory.specs.Values.{rotations_of}
use Rattle.sm_theory.specs.Weights.{gain_of}
use Rattle.sm_theory.proofs.Bridge.Chain.{stage_stable, eliminable_of}
use Rattle.sm_rotations.proofs.NeedsLemmas.{pairs_read, as_many, next_stage}
use Rattle.sm_weight.specs.Sizes.{weights_in}
use Rattle.sm_weight.proofs.CountLemmas.{pairs_few, pairs_of_few, sum_grows}
use Rattle.sm_weight.proofs.gains.gains_along.Goals as goal

pub turn-requires-clause-stable : goal.turn-requires-clause-stable
turn-requires-clause-stable c =
    let rotations = c.args.chain.now.rotations.items in
    rw c.loop-k.invariant.at (stage_stable c.requires.market c.requires.complete c.loop-k.k (omega (arith, c.len-k-end.ensures, as_many rotations)))

pub turn-requires-clause-exposed : goal.turn-requires-clause-exposed
turn-requires-clause-exposed c =
    let rotations = c.args.chain.now.rotations.items in
    let there : c.loop-k.k < length rotations = omega (arith, c.len-k-end.ensures) in
    let read = pairs_read rotations c.loop-k.k c.index.result.now there c.index.ensures in
    rw (c.loop-k.invariant.at, read) (c.requires.complete.exposed c.loop-k.k (omega (arith, as_many rotations)))

pub turn-requires-clause-few : goal.turn-requires-clause-few
turn-requires-clause-few c =
    let rotations = c.args.chain.now.rotations.items in
    let there : c.loop-k.k < length rotations = omega (arith, c.len-k-end.ensures) in
    let read = pairs_read rotations c.loop-k.k c.index.result.now there c.index.ensures in
    rw read (pairs_of_few c.requires.market c.requires.complete c.requires.limits c.loop-k.k (omega (arith, as_many rotations)))

pub loop-k-preserved : goal.loop-k-preserved
loop-k-preserved c =
    let rotations = c.args.chain.now.rotations.items in
    let k : ℕ = c.loop-k.k in
    let there : k < length rotations = omega (arith, c.len-k-end.ensures) in
    let inside : k < length (rotations_of rotations) = omega (arith, as_many rotations) in
    let read = pairs_read rotations k c.index.result.now there c.index.ensures in
    let gain : c.turn.result ≡ gain_of c.args.market.now (weights_in c.args.weights.now) (rotation_at (rotations_of rotations) k) = c.turn.ensures.gain ∙ ap (gain_of c.args.market.now (weights_in c.args.weights.now)) read in
    let few = pairs_of_few c.requires.market c.requires.complete c.requires.limits k inside in
    let small : unsigned_abs c.turn.result ≤ 2 ^ 31 * length (rotation_at (rotations_of rotations) k) = rw (sym read) c.turn.ensures.small in
    let itself : to_z w64 (of_z w64 c.turn.result) ≡ c.turn.result = to_z-of_z w64 c.turn.result (fits_signed_from_abs w64 c.turn.result (omega arith)) in
    let items : c.push.new.self.items ≡ c.loop-k.gains.items ++ c.turn.result ∷ [] = c.in_ok-push.ensures.items ∙ ap (λ z. c.loop-k.gains.items ++ z ∷ []) itself in
    let next : k + 1 ≡ suc k = omega arith in
    record {
      made = c.turn.ensures.made;
      at = next_stage (eliminable_of c.requires.complete) inside c.loop-k.invariant.at c.index.result.now.pairs.items read c.turn.ensures.moved;
      gains =
          items ∙ ap (λ z. c.loop-k.gains.items ++ z ∷ []) gain
          ∙ ap (λ (xs : List ℤ). xs ++ gain_of c.args.market.now (weights_in c.args.weights.now) (rotation_at (rotations_of rotations) k) ∷ []) c.loop-k.invariant.gains
          ∙ sym (map_more (gain_of c.args.market.now (weights_in c.args.weights.now)) (rotations_of rotations) k [] inside);
      small = omega (
        arith,
        ap (sum_by unsigned_abs) items,
        sum_by_push unsigned_abs c.loop-k.gains.items c.turn.result,
        c.loop-k.invariant.small,
        small,
        ap (sum_to (λ k. length (rotation_at (rotations_of rotations) k))) next,
      );
    }

pub returns-clause-small : goal.returns-clause-small
returns-clause-small c =
    let rotations = c.args.chain.now.rotations.items in
    let few = pairs_few c.requires.market c.requires.complete c.requires.limits in
    omega (arith, c.loop-k.invariant.small, few, sum_grows (λ k. length (rotation_at (rotations_of rotations) k)) c.loop-k.k (length (rotations_of rotations)) (omega (arith, c.loop-k.auto.k-end, c.len-k-end.ensures, as_many rotations)))

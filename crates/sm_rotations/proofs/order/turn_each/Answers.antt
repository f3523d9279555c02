use Rattle.std.proofs.Common.{◌≡◌, ◌<◌, length, get_or, ◌∙◌, arith}
use Rattle.std.proofs.lemmas.List.{map-set}
use Rattle.sm_theory.specs.Chains.{rotation_at}
use Rattle.sm_theory.specs.Values.{rotations_of}
use Rattle.sm_theory.specs.declared.rotations.Rotation.{Rotation}
use Rattle.sm_rotations.proofs.LowestLemmas.{leads_more, turned_more}
use Rattle.sm_rotations.proofs.NeedsLemmas.{as_many}
use Rattle.sm_rotations.proofs.WrittenLemmas.{pairs_at}
use Rattle.sm_rotations.proofs.order.turn_each.Goals as goal

pub loop-k-preserved : goal.loop-k-preserved
loop-k-preserved c =
    let i = c.loop-k.invariant in
    let inside : c.loop-k.k < length c.loop-k.rotations = omega (arith, c.loop-k-test.true, c.loop-k.auto.rotations) in
    let read : (get_or c.loop-k.rotations c.loop-k.k c.index-rotations-k.result).pairs.items ≡ rotation_at (rotations_of c.args.rotations.now) c.loop-k.k = pairs_at c.loop-k.rotations c.loop-k.k c.index-rotations-k.result inside ∙ i.turned.others c.loop-k.k (omega arith) in
    record {
      leads = rw c.in_ok-push.ensures.items (leads_more read c.turn.ensures.lead i.leads);
      turned = rw (map-set (λ (r : Rotation). r.pairs.items) c.loop-k.rotations c.loop-k.k c.turn.new.rotation) (turned_more read (omega (arith, c.loop-k-test.true, as_many c.args.rotations.now)) c.turn.ensures.turned i.turned);
    }

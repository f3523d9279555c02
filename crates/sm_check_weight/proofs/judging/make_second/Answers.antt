use Rattle.std.proofs.Common.{◌≡◌, ◌∙◌, true, arith, ap, sym, subst, List, ℤ, length, map}
use Rattle.std.proofs.lemmas.Bool.{false≢true}
use Rattle.std.proofs.lemmas.List.{length-map}
use Rattle.sm_theory.specs.Sizes.{weights_in, AreWeights}
use Rattle.sm_theory.specs.Weights.{gain_of}
use Rattle.sm_check_net.specs.Moves.{moves_in, AreMovesByRotation}
use Rattle.sm_seats.specs.SeatMarket.{seat_market}
use Rattle.sm_seats.specs.Levels.{has_two_levels}
use Rattle.sm_check_clauses.specs.Said.{rotations_in}
use Rattle.sm_check_clauses.specs.Walks.{AreChainMoves}
use Rattle.sm_check_weight.proofs.MoveLemmas.{can_be_weighed}
use Rattle.sm_check_weight.proofs.GainLemmas.{moves_on_lists}
use Rattle.sm_check_weight.proofs.SecondLemmas.{second_is}
use Rattle.sm_check_weight.proofs.judging.make_second.Goals as goal

pub gains_of-requires : goal.gains_of-requires
gains_of-requires c =
    let w = c.args.weighed.now.instance.now in
    let h = c.requires.known in
    let limit = c.proposer_count-proposers.ensures.instance.limits.proposers in
    can_be_weighed w (weights_in c.deref.result.now) (subst (AreWeights (seat_market w)) (sym (ap weights_in c.deref.ensures.value)) c.requires.tables.second_small) (omega (arith, limit))
    (subst (AreChainMoves (seat_market w) (rotations_in w h.above)) (sym (ap moves_in c.deref-2.ensures.value)) h.walk_of.is_walk.is_walk.moves)

pub second_net-requires-clause-few : goal.second_net-requires-clause-few
second_net-requires-clause-few c = c.size-size.ensures.few

pub second_net-requires-clause-each : goal.second_net-requires-clause-each
second_net-requires-clause-each c =
    let w = c.args.weighed.now.instance.now in
    let h = c.requires.known in
    let rotations = rotations_in w h.above in
    let gains = c.in_ok-gains.ensures (seat_market w) rotations (subst (AreMovesByRotation (seat_market w) rotations) (sym (ap moves_in c.deref-2.ensures.value)) h.walk_of.is_walk.is_walk.moves.moves) in
    ap (λ (xs : List ℤ). length xs) gains ∙ length-map rotations (gain_of (seat_market w) (weights_in c.deref.result.now)) ∙ h.kept.needs.one_each

pub returns-clause-kept : goal.returns-clause-kept
returns-clause-kept c = λ lines above k ground.
    let w = c.args.weighed.now.instance.now in
    let by = c.args.weighed.now.by in
    let rotations = rotations_in w above in
    let gains = c.in_ok-gains.ensures (seat_market w) rotations (subst (AreMovesByRotation (seat_market w) rotations) (sym (ap moves_in c.deref-2.ensures.value)) ground.walk_of.is_walk.is_walk.moves.moves) in
    let seconds = ap weights_in c.deref.ensures.value ∙ c.requires.tables.seconds in
    let two : has_two_levels by w ≡ true = sym c.requires.tables.two_levels ∙ c.if-not-tables.false in
    record {
      net = k.net;
      needs = k.needs;
      first = k.first;
      edges = k.edges;
      second_net = record {
        same = second_is w by above c.args.claim.now.net c.in_ok-second_net.field-0 c.said.result.now c.in_ok-gains.gains.items k.net (c.said.ensures ∙ k.first.flow.front)
            two (moves_on_lists ground.walk_of.is_walk.is_walk.moves)
            (gains ∙ ap (λ (ws : List (List ℤ)). map (gain_of (seat_market w) ws) rotations) seconds) c.in_ok-second_net.ensures;
        none = λ one. absurd (false≢true (sym one ∙ two));
      };
      second = k.second;
      taken = k.taken;
      said = k.said;
      stood = k.stood;
    }

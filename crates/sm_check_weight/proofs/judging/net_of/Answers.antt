use Rattle.std.proofs.Common.{◌≡◌, ◌∙◌, arith, ap, sym, subst, List, ℤ, length, map}
use Rattle.std.proofs.lemmas.List.{length-map}
use Rattle.sm_lists.specs.Rows.{rows_of}
use Rattle.sm_agents.proofs.ItemLemmas.{forced_in_range, forbidden_in_range}
use Rattle.sm_market.specs.Limits.{IsWithinLimits}
use Rattle.sm_theory.specs.Sizes.{weights_in, AreWeights}
use Rattle.sm_theory.specs.Vectors.{AreLevels}
use Rattle.sm_theory.specs.Weights.{gain_of}
use Rattle.sm_check_net.specs.Moves.{moves_in, AreMovesByRotation}
use Rattle.sm_check_net.specs.CheckedNets.{AreRowsRising}
use Rattle.sm_seats.specs.SeatMarket.{seat_market}
use Rattle.sm_seats.specs.Seating.{Seating}
use Rattle.sm_seats.specs.Correspondence.{leveled}
use Rattle.sm_seats.proofs.MarketLaws.{length-proposers}
use Rattle.sm_seats.proofs.CorrespondenceLaws.{sound_entries, is_seating}
use Rattle.sm_report.specs.Lines.{line_of}
use Rattle.sm_check_clauses.specs.Said.{rotations_in}
use Rattle.sm_check_clauses.specs.Walks.{AreChainMoves}
use Rattle.sm_check_weight.proofs.MoveLemmas.{can_be_weighed}
use Rattle.sm_check_weight.proofs.NetLemmas.{levels_long, forced_below, forbidden_below, few_rotations, first_has_levels, needs_rise, numbers_below, needs_long, needs_are, net_made}
use Rattle.sm_check_weight.proofs.judging.net_of.Goals as goal

pub gains_of-requires : goal.gains_of-requires
gains_of-requires c =
    let w = c.args.weighed.now.instance.now in
    let market : c.market.result.now ≡ seat_market w = c.market.ensures ∙ ap (λ (s : Seating). s.market) c.requires.seats in
    let limits : IsWithinLimits (seat_market w) = subst IsWithinLimits market c.proposers-proposers.ensures.limits in
    can_be_weighed w (weights_in c.deref.result.now) (subst (AreWeights (seat_market w)) (sym (ap weights_in c.deref.ensures.value)) c.requires.tables.small)
    (omega (arith, limits.proposers.agents, length-proposers w))
    (subst (AreChainMoves (seat_market w) (rotations_in w (map line_of c.args.lines.now))) (sym (ap moves_in c.deref-2.ensures.value)) c.requires.ground.walk_of.is_walk.is_walk.moves)

pub leveled-requires : goal.leveled-requires
leveled-requires c = rw c.forced.ensures.pairs (forced_in_range c.forced.ensures.instance)

pub leveled-requires-2 : goal.leveled-requires-2
leveled-requires-2 c = rw c.forbidden.ensures.pairs (forbidden_in_range c.forbidden.ensures.instance)

pub bonds-requires-clause-first : goal.bonds-requires-clause-first
bonds-requires-clause-first c =
    first_has_levels c.requires.ground (subst (AreLevels (seat_market c.args.weighed.now.instance.now)) (sym (ap rows_of c.deref-3.ensures.value)) c.requires.tables.rising)

pub bonds-requires-clause-forced : goal.bonds-requires-clause-forced
bonds-requires-clause-forced c =
    let w = c.args.weighed.now.instance.now in
    let rising = subst (AreLevels (seat_market w)) (sym (ap rows_of c.deref-3.ensures.value)) c.requires.tables.rising in
    forced_below c.forced.ensures.instance (levels_long w c.deref-3.result.now rising) (c.deref-5.ensures.value ∙ c.in_ok-forced.ensures ∙ ap (leveled w) c.forced.ensures.pairs)

pub bonds-requires-clause-forbidden : goal.bonds-requires-clause-forbidden
bonds-requires-clause-forbidden c =
    let w = c.args.weighed.now.instance.now in
    let rising = subst (AreLevels (seat_market w)) (sym (ap rows_of c.deref-3.ensures.value)) c.requires.tables.rising in
    forbidden_below c.forbidden.ensures.instance (levels_long w c.deref-3.result.now rising) (c.deref-6.ensures.value ∙ c.in_ok-forbidden.ensures ∙ ap (leveled w) c.forbidden.ensures.pairs)

pub of-requires-clause-few : goal.of-requires-clause-few
of-requires-clause-few c =
    let w = c.args.weighed.now.instance.now in
    let rotations = rotations_in w (map line_of c.args.lines.now) in
    let market : c.market.result.now ≡ seat_market w = c.market.ensures ∙ ap (λ (s : Seating). s.market) c.requires.seats in
    let few = few_rotations c.requires.ground (subst IsWithinLimits market c.proposers-proposers.ensures.limits) in
    let gains = c.in_ok-gains.ensures (seat_market w) rotations (subst (AreMovesByRotation (seat_market w) rotations) (sym (ap moves_in c.deref-2.ensures.value)) c.requires.ground.walk_of.is_walk.is_walk.moves.moves) in
    let long : length c.in_ok-gains.gains.items ≡ length rotations = ap (λ (xs : List ℤ). length xs) gains ∙ length-map rotations (gain_of (seat_market w) (weights_in c.deref.result.now)) in
    omega (arith, few, long)

pub of-requires-clause-each : goal.of-requires-clause-each
of-requires-clause-each c =
    let w = c.args.weighed.now.instance.now in
    let rotations = rotations_in w (map line_of c.args.lines.now) in
    let gains = c.in_ok-gains.ensures (seat_market w) rotations (subst (AreMovesByRotation (seat_market w) rotations) (sym (ap moves_in c.deref-2.ensures.value)) c.requires.ground.walk_of.is_walk.is_walk.moves.moves) in
    needs_long c.requires.ground c.in_ok-needs.needs.items c.in_ok-needs.ensures
    ∙ sym (ap (λ (xs : List ℤ). length xs) gains ∙ length-map rotations (gain_of (seat_market w) (weights_in c.deref.result.now)))

pub of-requires-clause-rising : goal.of-requires-clause-rising
of-requires-clause-rising c = subst AreRowsRising (sym c.in_ok-needs.ensures) (needs_rise c.requires.ground)

pub of-requires-clause-numbers : goal.of-requires-clause-numbers
of-requires-clause-numbers c =
    let w = c.args.weighed.now.instance.now in
    let rotations = rotations_in w (map line_of c.args.lines.now) in
    let gains = c.in_ok-gains.ensures (seat_market w) rotations (subst (AreMovesByRotation (seat_market w) rotations) (sym (ap moves_in c.deref-2.ensures.value)) c.requires.ground.walk_of.is_walk.is_walk.moves.moves) in
    numbers_below c.requires.ground (ap (λ (xs : List ℤ). length xs) gains ∙ length-map rotations (gain_of (seat_market w) (weights_in c.deref.result.now))) c.in_ok-needs.ensures

pub returns-clause-net : goal.returns-clause-net
returns-clause-net c =
    let w = c.args.weighed.now.instance.now in
    let rotations = rotations_in w (map line_of c.args.lines.now) in
    let gains = c.in_ok-gains.ensures (seat_market w) rotations (subst (AreMovesByRotation (seat_market w) rotations) (sym (ap moves_in c.deref-2.ensures.value)) c.requires.ground.walk_of.is_walk.is_walk.moves.moves) in
    let levels = ap rows_of c.deref-3.ensures.value ∙ c.requires.tables.levels in
    let weights = ap weights_in c.deref.ensures.value ∙ c.requires.tables.weights in
    net_made c.requires.ground (is_seating (sound_entries c.forced.ensures.instance)) c.args.weighed.now.by levels weights gains c.in_ok-needs.ensures
    (c.deref-5.ensures.value ∙ c.in_ok-forced.ensures ∙ ap (leveled w) c.forced.ensures.pairs)
    (c.deref-6.ensures.value ∙ c.in_ok-forbidden.ensures ∙ ap (leveled w) c.forbidden.ensures.pairs)
    (rw c.deref-4.ensures.value at c.in_ok-bonds.ensures) c.of.ensures

pub returns-clause-needs : goal.returns-clause-needs
returns-clause-needs c =
    let w = c.args.weighed.now.instance.now in
    let rotations = rotations_in w (map line_of c.args.lines.now) in
    let gains = c.in_ok-gains.ensures (seat_market w) rotations (subst (AreMovesByRotation (seat_market w) rotations) (sym (ap moves_in c.deref-2.ensures.value)) c.requires.ground.walk_of.is_walk.is_walk.moves.moves) in
    needs_are c.requires.ground c.in_ok-needs.ensures (ap (λ (xs : List ℤ). length xs) gains ∙ length-map rotations (gain_of (seat_market w) (weights_in c.deref.result.now))) c.of.ensures

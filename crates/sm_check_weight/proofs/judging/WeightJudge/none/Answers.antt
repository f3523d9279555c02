use Rattle.std.proofs.Common.{◌∙◌, ap, sym, subst, refl, arith}
use Rattle.sm_theory.specs.Vectors.{AreLevels}
use Rattle.sm_seats.specs.SeatMarket.{seat_market}
use Rattle.sm_seats.specs.Seating.{seating_of, levels_of}
use Rattle.sm_seats.specs.Correspondence.{IsSeating, weights_of}
use Rattle.sm_seats.proofs.CorrespondenceLaws.{sound_entries, is_seating}
use Rattle.sm_instance.specs.Ranks.{pair_weight}
use Rattle.sm_seats.specs.Levels.{pair_second_by, seconds_by}
use Rattle.sm_seats.proofs.PlaceLemmas.{are_weights}
use Rattle.sm_check_weight.proofs.judging.WeightJudge.none.Goals as goal

pub weights_of_places-requires-clause-seating : goal.weights_of_places-requires-clause-seating
weights_of_places-requires-clause-seating c =
    subst (IsSeating c.args.weighed.now.instance.now) (sym c.requires.seats) (is_seating (sound_entries c.proposer_count-proposers.ensures.instance))

pub seconds_of_places-requires-clause-seating : goal.seconds_of_places-requires-clause-seating
seconds_of_places-requires-clause-seating c =
    subst (IsSeating c.args.weighed.now.instance.now) (sym c.requires.seats) (is_seating (sound_entries c.proposer_count-proposers.ensures.instance))

pub returns-clause-known : goal.returns-clause-known
returns-clause-known c =
    let w = c.args.weighed.now.instance.now in
    let by = c.args.weighed.now.by in
    let seating = is_seating (sound_entries c.proposer_count-proposers.ensures.instance) in
    let levels = c.in_ok-levels.ensures ∙ ap levels_of c.requires.seats in
    let weights = c.in_ok-weights.ensures.weights ∙ ap (weights_of by w) c.requires.seats in
    let seconds = c.in_ok-seconds.ensures.seconds ∙ ap (seconds_by by w) c.requires.seats in
    record {
      instance_is = refl;
      by_is = refl;
      seats = c.requires.seats;
      seating = seating;
      lines_are = refl;
      tables = record {
        levels = levels;
        rising = subst (AreLevels (seat_market w)) (sym levels) seating.levels;
        weights = weights;
        small = are_weights (pair_weight by w) (seating_of w) refl weights c.in_ok-weights.ensures.light;
        seconds = seconds;
        second_small = are_weights (pair_second_by by w) (seating_of w) refl seconds c.in_ok-seconds.ensures.light;
        two_levels = c.has_two_levels-two_levels.ensures;
      };
      chain_of = rw c.in_ok-chain.ensures.instance refl;
      chain = rw (c.in_ok-chain.ensures.market, c.in_ok-chain.ensures.firsts) c.in_ok-chain.ensures.known;
      needs = λ j less. absurd (omega (arith, less));
      claim = refl;
    }

use Rattle.std.proofs.Common.{◌≡◌, length, arith}
use Rattle.sm_theory.specs.Rooms.{mate_of, place_of_mate}
use Rattle.sm_check_decide.proofs.RoomLemmas.{standings_at, mate_place-le}
use Rattle.sm_check_decide.proofs.couples.mate_places.Goals as goal

pub returns : goal.returns
returns c =
    let rows = c.args.lists.now in
    let count = c.persons-x-end.ensures.count in
    let long : length c.loop-x.standings.items ≡ length rows = omega arith in
    record {
      on_lists = standings_at (λ x. place_of_mate rows x (mate_of c.args.mates.now x)) long (λ x inside. c.loop-x.invariant.places x (omega arith))
          (λ x. mate_place-le rows x (mate_of c.args.mates.now x));
      places = λ x inside. c.loop-x.invariant.places x (omega arith);
    }

use Rattle.std.proofs.Common.{◌≡◌, length, arith}
use Rattle.sm_theory.specs.Partitions.{party_place}
use Rattle.sm_check_decide.proofs.RoomLemmas.{standings_at}
use Rattle.sm_check_decide.proofs.PartyLemmas.{party_place-le}
use Rattle.sm_check_decide.proofs.partitions.party_places.Goals as goal

pub returns : goal.returns
returns c =
    let rows = c.args.lists.now in
    let count = c.persons-x-end.ensures.count in
    let long : length c.loop-x.standings.items ≡ length rows = omega arith in
    record {
      on_lists = standings_at (party_place rows c.args.next.now) long (λ x inside. c.loop-x.invariant.places x (omega arith)) (party_place-le rows c.args.next.now);
      places = λ x inside. c.loop-x.invariant.places x (omega arith);
    }

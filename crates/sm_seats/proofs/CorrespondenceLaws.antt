-- The seats of an instance correspond to it.
use Rattle.std.proofs.Common.{ℕ, ◌<◌, length, ap, refl, arith}
use Rattle.std.proofs.lemmas.List.{length-map}
use Rattle.sm_agents.specs.Written.{Written, capacity_of}
use Rattle.sm_instance.specs.Ranks.{pair_weight, pair_second}
use Rattle.sm_agents.specs.Sound.{IsInstance}
use Rattle.sm_agents.specs.Faults.{HasSoundEntries}
use Rattle.sm_theory.specs.Lattice.{with_proposers}
use Rattle.sm_seats.specs.SeatMarket.{seat_market, seats_of, row_of_seat}
use Rattle.sm_seats.specs.Seating.{seating_of}
use Rattle.sm_seats.specs.Taken.{places_taken}
use Rattle.sm_seats.specs.Correspondence.{IsSeating}
use Rattle.sm_seats.proofs.MarketLaws.{is_market, length-proposers}
use Rattle.sm_seats.proofs.ForgetLaws.{forgotten_matching, stable_forgotten}
use Rattle.sm_seats.proofs.TakenLaws.{stable_taken, taken_forgotten}
use Rattle.sm_seats.proofs.LevelLaws.{are_levels, levels_alike, levels_are_ranks, one_seating, taken_is}
use Rattle.sm_seats.proofs.SeatLemmas.{IsSeat, seat_found, seat_name, length-seats, has_seats, seat_count-le-capacity}
use Rattle.sm_seats.proofs.SeatPlaces.{seat_on}
use Rattle.sm_seats.proofs.WrittenLemmas.{row-seating, reviewer_of-seating, written_on}
use Rattle.sm_seats.proofs.WorthLaws.{at_level, level_at, allowed_alike, weights_alike, regrets_alike}

-- an instance has sound entries
pub sound_entries : {w : Written} → IsInstance w → HasSoundEntries w
sound_entries i = record { proposers = i.proposer_entries; reviewers = i.reviewer_entries }

seat_at : (w : Written) (seat : ℕ) → seat < length (seats_of w) → IsSeat w seat
seat_at w seat there = seat_found w seat (length w.reviewers) (omega (arith, length-seats w))

-- the seating of an instance is one
pub is_seating : {w : Written} → HasSoundEntries w → IsSeating w (seating_of w)
is_seating {w} h = record {
  market = is_market h;
  proposers = length-proposers w;
  seats = length-map (seats_of w) (row_of_seat w);
  lists = refl;
  reviewers = λ seat there. (let it = seat_at w seat there in let e = reviewer_of-seating it.of in let here = has_seats w it.reviewer it.number it.of.below in omega arith);
  numbers = λ seat there.
      let it = seat_at w seat there in
      let number = ap (λ (x : ℕ × ℕ). x.1) (seat_name it.of) in
      let capacity = ap (capacity_of w.reviewers) (reviewer_of-seating it.of) in
      let most = seat_count-le-capacity w it.reviewer in
      let below = it.of.below in
      record { least = omega arith; greatest = omega arith };
  on_lists = λ p i on. (let it = seat_on h p i on in let e = written_on it.at in let long = ap length (row-seating w p) in omega arith);
  levels = are_levels h;
  alike = levels_alike h;
  matched = λ m f. forgotten_matching h f;
  kept = λ places m. taken_forgotten h places m;
  forgotten = λ m s. stable_forgotten h s;
  seated = λ places s. record {
    matching = with_proposers (seat_market w) (places_taken w places);
    stable = stable_taken h places s;
    taken = refl;
    forgets = taken_forgotten h places s.matching;
  };
  one = one_seating h;
  taken = taken_is h;
  ranks = λ m f. levels_are_ranks h f;
  holds = λ m f p r. (at_level h f p r, level_at h f p r);
  allowed = λ m f. allowed_alike h f;
  weights = λ by m f. weights_alike h f (pair_weight by w) (λ p. refl);
  seconds = λ m f. weights_alike h f (pair_second w) (λ p. refl);
  regrets = λ m f. regrets_alike h f;
}

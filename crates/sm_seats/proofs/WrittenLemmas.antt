-- What matchings of seats are on the written lists.
use Rattle.std.proofs.Common.{◌≡◌, ℕ, ◌+◌, ◌<◌, ◌⊎◌, true, List, [], Option, Some, None, length, unwrap_or, sym, ap, ◌∙◌, arith, inl, inr}
use Rattle.std.specs.Option.{option_map}
use Rattle.std.proofs.lemmas.Bool.{cases_lt}
use Rattle.std.proofs.lemmas.List.{get_or_past, get_or-map, length-map}
use Rattle.std.proofs.lemmas.Option.{none-some, same_Some}
use Rattle.sm_lists.specs.Rows.{place_on}
use Rattle.sm_lists.proofs.PlaceLemmas.{get_or-place_on}
use Rattle.sm_agents.specs.Written.{AgentData, Written, no_agent, row as written_row, entry as written_entry, place_of as written_place_of}
use Rattle.sm_agents.specs.Faults.{HasSoundEntries}
use Rattle.sm_instance.specs.Matching.{held, standing as written_standing, is_at}
use Rattle.sm_instance.proofs.LoadLemmas.{place_at, at_place}
use Rattle.sm_market.specs.Lists.{row, entry}
use Rattle.sm_market.specs.Matching.{Places, standing, IsMatching, held as market_held}
use Rattle.sm_market.proofs.Core.{Pair, pair_at, one_reviewer as same_seat}
use Rattle.sm_market.proofs.Bridge.{sides_of, stand_of, fit_of, held_cases}
use Rattle.sm_seats.specs.SeatMarket.{seat_count, seats_before, seat_market}
use Rattle.sm_seats.specs.Seating.{seating_of, reviewer_of, written_place, written_of}
use Rattle.sm_seats.proofs.SeatingLemmas.{held-written_of, length-written as length-seating}
use Rattle.sm_seats.proofs.MutualLemmas.{IsMutual}
use Rattle.sm_seats.proofs.SeatLemmas.{IsSeatOf, seat_name, one_reviewer}
use Rattle.sm_seats.proofs.SeatPlaces.{IsPlaced, seat_at_place, seat_on, place_is}
use Rattle.sm_seats.proofs.MarketLaws.{is_market, length-proposers}

-- the lists of a seating are the written ones
pub row-seating : (w : Written) (p : ℕ) → row (seating_of w).lists p ≡ written_row w.proposers p
row-seating w p = elim (cases_lt p (length w.proposers)) [
  | inl here ↦ get_or-map (λ (agent : AgentData). agent.entries) w.proposers p no_agent [] here
  | inr past ↦
      let none : written_row w.proposers p ≡ [] = ap (λ (x : AgentData). x.entries) (get_or_past w.proposers p no_agent past) in
      let long = length-map w.proposers (λ (agent : AgentData). agent.entries) in
      get_or_past (seating_of w).lists p [] (omega arith) ∙ sym none
]

-- a seat's reviewer is read off its name
pub reviewer_of-seating : {w : Written} {seat r k : ℕ} → IsSeatOf w seat r k → reviewer_of (seating_of w) seat ≡ r
reviewer_of-seating s = ap (λ (x : ℕ × ℕ). x.0) (seat_name s)

-- the written place of a place in the market
pub written_place-seating : {w : Written} {p i r k : ℕ} → IsPlaced w p i r k → written_place (seating_of w) p i ≡ written_place_of w.proposers p r
written_place-seating {w} {p} {i} it = ap (λ l. place_on l (reviewer_of (seating_of w) (entry (seat_market w).proposers p i))) (row-seating w p) ∙ ap (written_place_of w.proposers p) (reviewer_of-seating (seat_at_place it))

-- it is on the written list
pub written_on : {w : Written} {p i r k : ℕ} → IsPlaced w p i r k → written_place (seating_of w) p i < length (written_row w.proposers p)
written_on it = omega (arith, written_place-seating it, it.mutual_.lists)

-- at it the reviewer is named
pub written_there : (w : Written) {p r : ℕ} → IsMutual w.proposers w.reviewers p r → written_entry w.proposers p (written_place_of w.proposers p r) ≡ r
written_there w {p} {r} m = get_or-place_on (written_row w.proposers p) r m.lists

-- there is one for each proposer
pub length-written : (w : Written) (places : List (Option ℕ)) → length (written_of (seating_of w) places) ≡ length w.proposers
length-written w places = length-seating (seating_of w) places ∙ length-proposers w

-- a proposer has a seat in a matching, or it has none
pub record HasSeatIn (w : Written) (m : Places) (p : ℕ) : Type 0 where
  pub place : ℕ
  pub reviewer : ℕ
  pub number : ℕ
  pub held_is : market_held m.proposers p ≡ Some place
  pub stands : standing (seat_market w).proposers m.proposers p ≡ place
  pub at : IsPlaced w p place reviewer number
  pub written_held_is : held (written_of (seating_of w) m.proposers) p ≡ Some (written_place_of w.proposers p reviewer)
  pub written_stands : written_standing w (written_of (seating_of w) m.proposers) p ≡ written_place_of w.proposers p reviewer

-- a proposer without a seat in a matching is unmatched, and stands past its list of seats and past its written list
pub record HasNoSeatIn (w : Written) (m : Places) (p : ℕ) : Type 0 where
  pub held_is : market_held m.proposers p ≡ None
  pub stands : standing (seat_market w).proposers m.proposers p ≡ length (row (seat_market w).proposers p)
  pub written_held_is : held (written_of (seating_of w) m.proposers) p ≡ None
  pub written_stands : written_standing w (written_of (seating_of w) m.proposers) p ≡ length (written_row w.proposers p)

-- p sits at a seat of r
pub record SitsAt (w : Written) (h : HasSoundEntries w) (m : Places) (p r : ℕ) : Type 0 where
  pub number : ℕ
  pub below : number < seat_count w r
  pub mutual_ : IsMutual w.proposers w.reviewers p r
  pub pair : Pair (sides_of (seat_market w) (is_market h)) (stand_of (seat_market w) m) p (seats_before w r + number)

module _ {w : Written} (h : HasSoundEntries w) {m : Places} (f : IsMatching (seat_market w) m) where
  -- which of both
  pub seat_cases : (p : ℕ) → HasNoSeatIn w m p ⊎ HasSeatIn w m p
  seat_cases p =
      let e = held-written_of (seating_of w) m.proposers p f.proposers.one_each in
      elim (held_cases (seat_market w).proposers m.proposers p) [
        | inl alone ↦
            let none = e ∙ ap (option_map _) alone.held_is in
            inl (record { held_is = alone.held_is; stands = alone.standing_is; written_held_is = none; written_stands = ap (λ o. unwrap_or o (length (written_row w.proposers p))) none })
        | inr has ↦
            let it = seat_on h p has.place (f.proposers.on_list p has.place has.held_is) in
            let some = e ∙ ap (option_map _) has.held_is ∙ ap Some (written_place-seating it.at) in
            inr (record {
              place = has.place;
              reviewer = it.reviewer;
              number = it.number;
              held_is = has.held_is;
              stands = has.standing_is;
              at = it.at;
              written_held_is = some;
              written_stands = ap (λ o. unwrap_or o (length (written_row w.proposers p))) some;
            })
      ]

  -- the seat that a proposer has
  pub sits_in : (p : ℕ) (it : HasSeatIn w m p) → SitsAt w h m p it.reviewer
  sits_in p it = record {
    number = it.number;
    below = it.at.below;
    mutual_ = it.at.mutual_;
    pair = pair_at {s = sides_of (seat_market w) (is_market h)} {m = stand_of (seat_market w) m} p (seats_before w it.reviewer + it.number) (fit_of (is_market h) f)
        (omega (arith, it.stands, it.at.on)) (place_is h it.at ∙ sym it.stands);
  }

  -- who is at r on the written lists sits at a seat of r
  pub sits_at : (p r : ℕ) → is_at w (written_of (seating_of w) m.proposers) p r ≡ true → SitsAt w h m p r
  sits_at p r at =
      let x = place_at w p r (held (written_of (seating_of w) m.proposers) p) at in
      elim (seat_cases p) [
        | inl alone ↦ absurd (none-some _ (sym alone.written_held_is ∙ x.1))
        | inr it ↦
            let i_is : written_place_of w.proposers p it.reviewer ≡ x.0 = same_Some _ _ (sym it.written_held_is ∙ x.1) in
            let r_is : it.reviewer ≡ r = sym (written_there w it.at.mutual_) ∙ ap (written_entry w.proposers p) i_is ∙ x.2 in
            rw r_is at (sits_in p it)
      ]

  -- and who sits there is at r
  pub at_seat : (p seat r k : ℕ) → Pair (sides_of (seat_market w) (is_market h)) (stand_of (seat_market w) m) p seat → IsSeatOf w seat r k → is_at w (written_of (seating_of w) m.proposers) p r ≡ true
  at_seat p seat r k pair s = elim (seat_cases p) [
    | inl alone ↦ absurd (omega (arith, alone.stands, pair.matched))
    | inr it ↦
        let mine = sits_in p it in
        let seat_is : seats_before w it.reviewer + mine.number ≡ seat = same_seat mine.pair pair in
        let t : IsSeatOf w seat it.reviewer mine.number = record { is = sym seat_is; below = mine.below } in
        let r_is : it.reviewer ≡ r = one_reviewer t s in
        at_place w (written_of (seating_of w) m.proposers) p r _ it.written_held_is (written_there w it.at.mutual_ ∙ r_is)
  ]

-- Where the proposals end.
use Rattle.std.proofs.Common.{◌≡◌, ℕ, ◌+◌, ◌<◌, ◌≤◌, List, Option, Some, length, map, get_or, refl, sym, ap, subst, ◌∙◌, arith, inl, inr}
use Rattle.std.specs.List.{range_with_len}
use Rattle.std.specs.Option.{option_map}
use Rattle.std.proofs.lemmas.Bool.{cases_lt}
use Rattle.std.proofs.lemmas.List.{get_or_past}
use Rattle.std.proofs.lemmas.List.FromFn.{length-map-range_with_len}
use Rattle.sm_lists.proofs.PlaceLemmas.{entry-place_of}
use Rattle.sm_agents.specs.Written.{AgentData, Written, no_agent, row}
use Rattle.sm_agents.specs.Sound.{IsInstance}
use Rattle.sm_instance.specs.Stable.{IsProposersBest as IsWrittenProposersBest}
use Rattle.sm_market.specs.Lists.{Lists, row as seat_list, entry as seat_entry, place_of as seat_place_of, agents, IsMarket}
use Rattle.sm_market.specs.Matching.{held, standing, IsMatching}
use Rattle.sm_market.specs.PairingFaults.{AreHeld}
use Rattle.sm_market.proofs.Bridge.{sides_of, stand_of, held_cases, held_at}
use Rattle.sm_theory.specs.Lattice.{with_proposers}
use Rattle.sm_theory.proofs.Core.Seats.{fit_of_seats}
use Rattle.sm_theory.proofs.Bridge.Places.{held_map, held_map_past, seats_with, matching_with}
use Rattle.sm_accept.specs.Accepting.{EndsAt, AreEnds}
use Rattle.sm_accept.proofs.AcceptEnds.{best_places_at}
use Rattle.sm_seats.specs.SeatMarket.{seat_market}
use Rattle.sm_seats.specs.Seating.{seating_of, written_place, written_of}
use Rattle.sm_seats.specs.Tables.{seats_listed}
use Rattle.sm_seats.proofs.MutualLemmas.{acceptable_mutual}
use Rattle.sm_seats.proofs.SeatPlaces.{first_place, placed}
use Rattle.sm_seats.proofs.MarketLaws.{length-proposers, is_market}
use Rattle.sm_seats.proofs.TableLemmas.{begin_of-first_place}
use Rattle.sm_seats.proofs.WrittenLemmas.{written_place-seating}
use Rattle.sm_seats.proofs.CrossRows.{map_same}
use Rattle.sm_seats.proofs.CorrespondenceLaws.{sound_entries, is_seating}
use Rattle.sm_seats.proofs.SeatingLaws.{proposers_best}
use Rattle.sm_answer_solve.specs.Ends.{end_at, ended_places}
use Rattle.sm_answer_solve.specs.Admitting.{IsUnderWay}
use Rattle.sm_answer_solve.proofs.EndPlaces.{ended_on, ended_past}
use Rattle.sm_answer_solve.proofs.AdmitLemmas.{listed_all}

ends_there : (len next : ℕ) → EndsAt len next (end_at len next)
ends_there len next = elim (cases_lt next len) [
  | inl lt ↦ subst (EndsAt len next) (sym (ended_on len next lt)) (refl, lt)
  | inr le ↦ subst (EndsAt len next) (sym (ended_past len next le)) le
]

-- places that the proposers can hold together are those of a matching
matching_of_held : {l : Lists} (h : IsMarket l) {places : List (Option ℕ)} → AreHeld l places → IsMatching l (with_proposers l places)
matching_of_held {l} h {places} f = matching_with h places f.one_each on (fit_of_seats {s = sides_of l h} {m = stand_of l (with_proposers l places)} low once (seats_with h places))
  where
    on : (p i : ℕ) → held places p ≡ Some i → i < length (seat_list l.proposers p)
    on p i e = elim (cases_lt i (length (seat_list l.proposers p))) [ inl lt ↦ lt | inr le ↦ absurd (f.on_lists p (record { at = i; holds = e; past = le })) ]

    low : (p : ℕ) → standing l.proposers places p ≤ length (seat_list l.proposers p)
    low p = elim (held_cases l.proposers places p) [ inl it ↦ omega (arith, it.standing_is) | inr it ↦ omega (arith, it.standing_is, on p it.place it.held_is) ]

    apart : (p q r : ℕ) → standing l.proposers places p < length (seat_list l.proposers p) → standing l.proposers places q < length (seat_list l.proposers q)
        → seat_place_of l.proposers p r ≡ standing l.proposers places p → seat_place_of l.proposers q r ≡ standing l.proposers places q → ¬ (p < q)
    apart p q r on_p on_q e_p e_q lt =
        let here : (x : ℕ) → standing l.proposers places x < length (seat_list l.proposers x) → seat_place_of l.proposers x r ≡ standing l.proposers places x → seat_entry l.proposers x (standing l.proposers places x) ≡ r =
        λ x o e. ap (seat_entry l.proposers x) (sym e) ∙ entry-place_of l.proposers x r (omega (arith, o, e)) in
        f.untaken q (record {
          at = standing l.proposers places q;
          holds = held_at l.proposers places q on_q;
          earlier = p;
          before = lt;
          there = standing l.proposers places p;
          earlier_holds = held_at l.proposers places p on_p;
          same = here p on_p e_p ∙ sym (here q on_q e_q);
        })

    once : (p q r : ℕ) → standing l.proposers places p < length (seat_list l.proposers p) → standing l.proposers places q < length (seat_list l.proposers q)
        → seat_place_of l.proposers p r ≡ standing l.proposers places p → seat_place_of l.proposers q r ≡ standing l.proposers places q → p ≡ q
    once p q r on_p on_q e_p e_q = elim (cases_lt p q) [
      | inl lt ↦ absurd (apart p q r on_p on_q e_p e_q lt)
      | inr ge ↦ elim (cases_lt q p) [ inl lt ↦ absurd (apart q p r on_q on_p e_q e_p lt) | inr le ↦ omega (arith, ge, le) ]
    ]

module _ {w : Written} (i : IsInstance w) {b : ℕ} {places standings : List ℕ} (g : IsUnderWay w b b places standings) (all : b ≡ length w.proposers) where
  -- where they end on the lists of seats
  abbrev seat_end : ℕ → Option ℕ
  seat_end p = end_at (length (seat_list (seat_market w).proposers p)) (get_or g.next p 0)

  abbrev seat_ends : List (Option ℕ)
  seat_ends = map seat_end (agents (seat_market w).proposers)

  are_ends : AreEnds (seat_market w) g.next seat_ends
  are_ends = record {
    one_each = length-map-range_with_len seat_end 0 (length (seat_market w).proposers);
    ends = λ p lt. subst (EndsAt (length (seat_list (seat_market w).proposers p)) (get_or g.next p 0)) (sym (held_map (seat_market w).proposers seat_end p lt)) (ends_there (length (seat_list (seat_market w).proposers p)) (get_or g.next p 0));
  }

  -- so each proposer ends there on its written list
  ends_alike : (p : ℕ) → option_map (written_place (seating_of w) p) (held seat_ends p) ≡ end_at (length (row w.proposers p)) (get_or places p 0)
  ends_alike p = elim (cases_lt p (length w.proposers)) [
    | inl here ↦
        let held_is = held_map (seat_market w).proposers seat_end p (omega (arith, here, length-proposers w)) in
        elim (g.rest p (omega (arith, all, here)) (λ same. absurd (omega (arith, all, here, same)))) [
          | inl seat ↦
              let m = acceptable_mutual seat.acceptable in
              let it = placed {w = w} {p = p} {r = seat.reviewer} {k = seat.number} m seat.below in
              let next_is : get_or g.next p 0 ≡ first_place w p seat.reviewer + seat.number =
              seat.next_is ∙ ap (λ x. seats_listed w p x + seat.number) seat.at_is ∙ ap (λ n. n + seat.number) (begin_of-first_place w m) in
              ap (option_map (written_place (seating_of w) p)) (held_is ∙ ended_on (length (seat_list (seat_market w).proposers p)) (get_or g.next p 0) (omega (arith, next_is, it.on)))
              ∙ ap Some (ap (written_place (seating_of w) p) next_is ∙ written_place-seating it ∙ sym seat.at_is)
              ∙ sym (ended_on (length (row w.proposers p)) (get_or places p 0) (omega (arith, seat.at_is, seat.acceptable.proposer_lists)))
          | inr end ↦
              ap (option_map (written_place (seating_of w) p)) (held_is ∙ ended_past (length (seat_list (seat_market w).proposers p)) (get_or g.next p 0) (omega (arith, end.next_is, listed_all w p (get_or places p 0) end.at_is)))
              ∙ sym (ended_past (length (row w.proposers p)) (get_or places p 0) (omega (arith, end.at_is)))
        ]
    | inr past ↦
        let none : length (row w.proposers p) ≡ 0 = ap (λ (x : AgentData). length x.entries) (get_or_past w.proposers p no_agent past) in
        ap (option_map (written_place (seating_of w) p)) (held_map_past (seat_market w).proposers seat_end p (omega (arith, past, length-proposers w)))
        ∙ sym (ended_past (length (row w.proposers p)) (get_or places p 0) (omega (arith, none)))
  ]

  -- and they end in the proposers' best matching
  pub best_ends : IsWrittenProposersBest w (ended_places w places)
  best_ends =
      let h = sound_entries i in
      let l : Lists = seat_market w in
      let at = best_places_at (is_market h) g.progress (all ∙ sym (length-proposers w)) are_ends in
      let matching = matching_of_held (is_market h) at.held in
      let best = at.best (with_proposers l seat_ends) matching refl in
      let same : written_of (seating_of w) seat_ends ≡ ended_places w places =
      ap (λ n. map (λ p. option_map (written_place (seating_of w) p) (held seat_ends p)) (range_with_len 0 n)) (length-proposers w)
      ∙ map_same (λ p. option_map (written_place (seating_of w) p) (held seat_ends p)) (λ p. end_at (length (row w.proposers p)) (get_or places p 0)) ends_alike (range_with_len 0 (length w.proposers)) in
      subst (IsWrittenProposersBest w) same (proposers_best (is_seating h) best)

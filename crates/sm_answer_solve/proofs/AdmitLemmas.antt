-- Proposals over the written lists, one by one, beside the same proposals in the market of seats.
use Rattle.std.proofs.Common.{◌≡◌, ◌≢◌, ℕ, ◌+◌, ◌-◌, ◌<◌, ◌≤◌, ◌++◌, ◌∷◌, ◌⊎◌, [], List, true, false, length, take, map, get_or, set, replicate, refl, sym, ap, subst, ◌∙◌, append-nil, arith, inl, inr, lt-ltb, le-ltb, Fits, w32}
use Rattle.std.specs.List.{flat_map, filter, range_with_len}
use Rattle.sm_text.specs.Limits.{most_agents}
use Rattle.std.proofs.lemmas.Bool.{cases_lt, cases_eq}
use Rattle.std.proofs.lemmas.List.{get_or_past, length-replicate, get_or-set_same, get_or-set_other, length-set, length-append, take_all}
use Rattle.std.proofs.lemmas.List.Concat.{flat_map-append}
use Rattle.std.proofs.lemmas.List.FromFn.{get_or-map-range_with_len, length-map-range_with_len, length-range_with_len}
use Rattle.sm_lists.specs.Rows.{place_on}
use Rattle.sm_lists.proofs.PlaceLemmas.{entry-place_of, get_or-place_on}
use Rattle.sm_agents.specs.Written.{Written, row, entry, place_of, IsAcceptable}
use Rattle.sm_agents.specs.Faults.{HasSoundEntries}
use Rattle.sm_agents.specs.Sound.{IsInstance}
use Rattle.sm_instance.proofs.AcceptLemmas.{proposer_row_fits}
use Rattle.sm_agents.proofs.ListLemmas.{row_in_range}
use Rattle.sm_instance.proofs.PlaceLemmas.{place_of-entry}
use Rattle.sm_market.specs.Lists.{row as seat_list, entry as seat_entry, place_of as seat_place_of}
use Rattle.sm_accept.specs.Accepting.{AreFree, IsProgress, TakesProposal, IsTakenFor}
use Rattle.sm_accept.proofs.AcceptSteps.{progress_start, progress_begins, progress_stops, progress_goes_on, refused_is_turned_down, progress_taken_in, progress_taken_for, IsTurnedDown}
use Rattle.sm_seats.specs.Mutual.{lists_back, mutual_row}
use Rattle.sm_seats.specs.SeatMarket.{seat_count, seats_before, seats_at, seat_market}
use Rattle.sm_seats.specs.Tables.{seats_listed, reviewers_before}
use Rattle.sm_seats.proofs.MutualLemmas.{IsMutual, acceptable_mutual, mutual_turned, mutual_on_row, order_kept, order_back}
use Rattle.sm_seats.proofs.CrossLemmas.{back_more, back_same}
use Rattle.sm_seats.proofs.SeatLemmas.{IsSeatOf, one_reviewer, one_number, seat_there, length-reviewers, row-seat}
use Rattle.sm_seats.proofs.SeatPlaces.{row_is, first_place, IsPlaced, placed}
use Rattle.sm_seats.proofs.MarketLaws.{length-proposers, place_of-seat_market, length-list, is_market}
use Rattle.sm_seats.proofs.TableLemmas.{begin_of-first_place}
use Rattle.sm_answer_solve.proofs.LeftLemmas.{zeros, left, one_less}
use Rattle.sm_answer_solve.specs.Admitting.{IsFree, IsHolding, IsSeated, IsAtEnd, IsUnderWay, IsArriving, IsProposing, IsTurnedAway, AreFreeSeats}

-- How many seats are listed before a place.

-- with the seats of an acceptable reviewer
listed_more : (w : Written) (p i : ℕ) → i < length (row w.proposers p) → lists_back w.reviewers p (entry w.proposers p i) ≡ true → seats_listed w p (i + 1) ≡ seats_listed w p i + seat_count w (entry w.proposers p i)
listed_more w p i on yes_ =
    let r : ℕ = entry w.proposers p i in
    let xs : List ℕ = reviewers_before w p i in
    ap (λ l. length (flat_map (seats_at w) l)) (back_more w.proposers w.reviewers p i on yes_)
    ∙ ap length (flat_map-append (seats_at w) xs (r ∷ [])) ∙ length-append (flat_map (seats_at w) xs) (seats_at w r ++ [])
    ∙ ap (λ l. length (flat_map (seats_at w) xs) + length l) (append-nil (seats_at w r))
    ∙ ap (λ n. length (flat_map (seats_at w) xs) + n) (length-range_with_len (seats_before w r) (seat_count w r))

-- no more behind an inert entry
listed_same : (w : Written) (p i : ℕ) → i < length (row w.proposers p) → lists_back w.reviewers p (entry w.proposers p i) ≡ false → seats_listed w p (i + 1) ≡ seats_listed w p i
listed_same w p i on no_ = ap (λ l. length (flat_map (seats_at w) l)) (back_same w.proposers w.reviewers p i on no_)

-- all of them behind the list
pub listed_all : (w : Written) (p i : ℕ) → i ≡ length (row w.proposers p) → seats_listed w p i ≡ length (seat_list (seat_market w).proposers p)
listed_all w p i end =
    ap (λ n. length (flat_map (seats_at w) (filter (lists_back w.reviewers p) (take n (row w.proposers p))))) end
    ∙ ap (λ l. length (flat_map (seats_at w) (filter (lists_back w.reviewers p) l))) (take_all (length (row w.proposers p)) (row w.proposers p) (omega arith))
    ∙ sym (ap length (row_is w p))

-- Steps.

module _ {w : Written} (h : HasSoundEntries w) where
  -- before anybody proposes
  pub way_start : (places standings : List ℕ) → places ≡ replicate (length w.proposers) 0 → AreFreeSeats w standings → IsUnderWay w 0 0 places standings
  way_start places standings zero_ f =
      let zero : ℕ = 0 in
      let n : ℕ = length (seat_market w).proposers in
      let lengths : ℕ → ℕ = λ s. length (seat_list (seat_market w).reviewers s) in
      let market : List ℕ = map lengths (range_with_len 0 (length (seat_market w).reviewers)) in
      let long = length-map-range_with_len lengths 0 (length (seat_market w).reviewers) in
      let at : (s : ℕ) → get_or market s 0 ≡ lengths s = λ s. elim (cases_lt s (length (seat_market w).reviewers)) [
        | inl here ↦ get_or-map-range_with_len lengths 0 (length (seat_market w).reviewers) s s 0 here (omega arith)
        | inr past ↦ get_or_past market s 0 (omega arith) ∙ sym (ap length (get_or_past (seat_market w).reviewers s [] past))
      ] in
      let free : AreFree (seat_market w) market = record { one_each = long; free = at } in
      record {
        next = replicate n zero;
        market = market;
        progress = progress_start (seat_market w) (replicate n zero) market refl free;
        proposers_each = ap length zero_ ∙ length-replicate (length w.proposers) zero;
        seats_each = f.one_each;
        seats = λ r k below.
            let of : IsSeatOf w (seats_before w r + k) r k = record { is = refl; below = below } in
            inl (record { is = at (seats_before w r + k) ∙ length-list of; written_is = f.free r k below });
        rest = λ p lt. absurd (omega (arith, lt));
        later = λ p le. (ap (λ l. get_or l p 0) zero_ ∙ zeros (length w.proposers) p, zeros n p);
      }

  -- the next proposer begins
  pub way_begins : {p : ℕ} {places standings : List ℕ} → IsUnderWay w p p places standings → IsArriving w (p + 1) p places standings
  way_begins {p} {places} {standings} g =
      let zero = g.later p (omega arith) in
      record {
        way = record {
          next = g.next;
          market = g.market;
          progress = progress_begins g.progress;
          proposers_each = g.proposers_each;
          seats_each = g.seats_each;
          seats = g.seats;
          rest = λ q lt ne. g.rest q (omega (arith, lt, ne)) ne;
          later = λ q le. g.later q (omega (arith, le));
        };
        below = omega arith;
        on_list = omega (arith, zero.0);
        next_is = zero.1 ∙ sym (ap (seats_listed w p) zero.0);
      }

  -- the one that is away is behind its list
  pub way_stops : {b q : ℕ} {places standings : List ℕ} → IsArriving w b q places standings → length (row w.proposers q) ≤ get_or places q 0 → IsUnderWay w b b places standings
  way_stops {b} {q} {places} {standings} a past =
      let g = a.way in
      let end : get_or places q 0 ≡ length (row w.proposers q) = omega (arith, a.on_list, past) in
      let all = listed_all w q (get_or places q 0) end in
      record {
        next = g.next;
        market = g.market;
        progress = progress_stops g.progress (omega (arith, a.next_is, all));
        proposers_each = g.proposers_each;
        seats_each = g.seats_each;
        seats = g.seats;
        rest = λ p lt ne. elim (cases_eq p q) [
          | inl same ↦
              let Q : ℕ → Type 0 = λ x. IsSeated w x (get_or places x 0) (get_or g.next x 0) ⊎ IsAtEnd w x (get_or places x 0) (get_or g.next x 0) in
              subst Q (sym same) (inr (record { at_is = end; next_is = a.next_is }))
          | inr other ↦ g.rest p lt other
        ];
        later = g.later;
      }

  -- one more place of its list, where those before it have as many seats as its place of the list of seats tells
  moved : {b q : ℕ} {places standings : List ℕ} (g : IsUnderWay w b q places standings) → q < b → get_or places q 0 < length (row w.proposers q)
      → get_or g.next q 0 ≡ seats_listed w q (get_or places q 0 + 1) → IsArriving w b q (set places q (get_or places q 0 + 1)) standings
  moved {b} {q} {places} {standings} g below on next_is =
      let i : ℕ = get_or places q 0 in
      let there : q < length places = omega (arith, row_in_range w.proposers q i on, g.proposers_each) in
      let here : get_or (set places q (i + 1)) q 0 ≡ i + 1 = get_or-set_same places q (i + 1) 0 there in
      let other : (p : ℕ) → p ≢ q → get_or (set places q (i + 1)) p 0 ≡ get_or places p 0 = λ p ne. get_or-set_other places q p (i + 1) 0 ne in
      record {
        way = record {
          next = g.next;
          market = g.market;
          progress = g.progress;
          proposers_each = length-set places q (i + 1) ∙ g.proposers_each;
          seats_each = g.seats_each;
          seats = g.seats;
          rest = λ p lt ne.
              let Q : ℕ → Type 0 = λ x. IsSeated w p x (get_or g.next p 0) ⊎ IsAtEnd w p x (get_or g.next p 0) in
              subst Q (sym (other p ne)) (g.rest p lt ne);
          later = λ p le. (other p (λ same. absurd (omega (arith, below, le, same))) ∙ (g.later p le).0, (g.later p le).1);
        };
        below = below;
        on_list = omega (arith, here, on);
        next_is = next_is ∙ sym (ap (seats_listed w q) here);
      }

  -- the entry at the place is inert
  pub way_passes : {b q : ℕ} {places standings : List ℕ} → IsArriving w b q places standings → get_or places q 0 < length (row w.proposers q)
      → ¬ IsAcceptable w q (entry w.proposers q (get_or places q 0)) → IsTurnedAway w b q places (set places q (get_or places q 0 + 1)) standings
  way_passes {b} {q} {places} {standings} a on inert =
      let i : ℕ = get_or places q 0 in
      let no_ : lists_back w.reviewers q (entry w.proposers q i) ≡ false = le-ltb _ _ (elim (cases_lt (place_of w.reviewers (entry w.proposers q i) q) (length (row w.reviewers (entry w.proposers q i)))) [
        | inl lt ↦ absurd (inert (record { proposer_lists = omega (arith, place_of-entry h.proposers q (entry w.proposers q i) i on refl, on); reviewer_lists = lt }))
        | inr le ↦ le
      ]) in
      record { arriving = moved a.way a.below on (a.next_is ∙ sym (listed_same w q i on no_)); on_list = on; moved = refl }

  -- or it is of a reviewer that is acceptable
  pub way_proposes : {b q place r : ℕ} {places standings : List ℕ} → IsArriving w b q places standings → get_or places q 0 < length (row w.proposers q)
      → r ≡ entry w.proposers q (get_or places q 0) → IsAcceptable w q r → place ≡ place_of w.reviewers r q → IsProposing w b r 0 q place places standings
  way_proposes {b} {q} {place} {r} {places} {standings} a on is acceptable place_is = record {
    way = a.way;
    below = a.below;
    acceptable = acceptable;
    at_is = sym (place_of-entry h.proposers q r (get_or places q 0) on (sym is));
    place_is = place_is;
    next_is = a.next_is ∙ (let e : seats_listed w q (get_or places q 0) ≡ seats_listed w q (get_or places q 0) + 0 = omega arith in e);
  }

  -- all seats of the reviewer hold somebody better
  pub way_turned_away : {b q place r k : ℕ} {places standings : List ℕ} → IsProposing w b r k q place places standings → k ≡ seat_count w r
      → IsTurnedAway w b q places (set places q (get_or places q 0 + 1)) standings
  way_turned_away {b} {q} {place} {r} {k} {places} {standings} a all =
      let i : ℕ = get_or places q 0 in
      let on : i < length (row w.proposers q) = omega (arith, a.at_is, a.acceptable.proposer_lists) in
      let there : entry w.proposers q i ≡ r = ap (entry w.proposers q) a.at_is ∙ get_or-place_on (row w.proposers q) r a.acceptable.proposer_lists in
      let yes_ : lists_back w.reviewers q (entry w.proposers q i) ≡ true = ap (lists_back w.reviewers q) there ∙ lt-ltb _ _ a.acceptable.reviewer_lists in
      let count = ap (seat_count w) there in
      record { arriving = moved a.way a.below on (omega (arith, a.next_is, all, count, listed_more w q i on yes_)); on_list = on; moved = refl }

  -- whoever is turned down at seat k of r goes on to the next seat
  goes_on : {b q place r : ℕ} (k : ℕ) {places standings : List ℕ} (g : IsUnderWay w b q places standings) → q < b → IsTurnedDown (seat_market w) q g.next g.market → IsAcceptable w q r
      → get_or places q 0 ≡ place_of w.proposers q r → place ≡ place_of w.reviewers r q → get_or g.next q 0 ≡ seats_listed w q (get_or places q 0) + k
      → IsProposing w b r (k + 1) q place places standings
  goes_on {b} {q} {place} {r} k {places} {standings} g below down acceptable at_is place_is next_is =
      let n : ℕ = get_or g.next q 0 in
      let in_range : q < length (seat_market w).proposers = omega (arith, row_in_range w.proposers q (place_of w.proposers q r) acceptable.proposer_lists, length-proposers w) in
      let there : q < length g.next = omega (arith, in_range, g.progress.proposers_each) in
      let here : get_or (set g.next q (n + 1)) q 0 ≡ n + 1 = get_or-set_same g.next q (n + 1) 0 there in
      let other : (p : ℕ) → p ≢ q → get_or (set g.next q (n + 1)) p 0 ≡ get_or g.next p 0 = λ p ne. get_or-set_other g.next q p (n + 1) 0 ne in
      record {
        way = record {
          next = set g.next q (n + 1);
          market = g.market;
          progress = progress_goes_on (is_market h) g.progress in_range down;
          proposers_each = g.proposers_each;
          seats_each = g.seats_each;
          seats = g.seats;
          rest = λ p lt ne.
              let Q : ℕ → Type 0 = λ x. IsSeated w p (get_or places p 0) x ⊎ IsAtEnd w p (get_or places p 0) x in
              subst Q (sym (other p ne)) (g.rest p lt ne);
          later = λ p le. ((g.later p le).0, other p (λ same. absurd (omega (arith, below, le, same))) ∙ (g.later p le).1);
        };
        below = below;
        acceptable = acceptable;
        at_is = at_is;
        place_is = place_is;
        next_is = omega (arith, here, next_is);
      }

  -- A proposal to seat k of r.

  module _ {b q place r k : ℕ} {places standings : List ℕ} (a : IsProposing w b r k q place places standings) (below : k < seat_count w r) where
    abbrev s : ℕ
    s = seats_before w r + k

    abbrev next : List ℕ
    next = a.way.next

    abbrev market : List ℕ
    market = a.way.market

    -- the place of the proposer on the list of the market
    abbrev seat_rank : ℕ
    seat_rank = place_on (mutual_row w.reviewers w.proposers r) q

    mutual_ : IsMutual w.proposers w.reviewers q r
    mutual_ = acceptable_mutual a.acceptable

    of : IsSeatOf w s r k
    of = record { is = refl; below = below }

    -- it is the next seat of the proposer's list
    at : IsPlaced w q (first_place w q r + k) r k
    at = placed mutual_ below

    next_at : get_or next q 0 ≡ first_place w q r + k
    next_at = a.next_is ∙ ap (λ i. seats_listed w q i + k) a.at_is ∙ ap (λ n. n + k) (begin_of-first_place w mutual_)

    on : get_or next q 0 < length (seat_list (seat_market w).proposers q)
    on = omega (arith, next_at, at.on)

    is : s ≡ seat_entry (seat_market w).proposers q (get_or next q 0)
    is = sym (ap (seat_entry (seat_market w).proposers q) next_at ∙ at.names)

    rank : seat_place_of (seat_market w).reviewers s q ≡ seat_rank
    rank = place_of-seat_market of q

    in_market : s < length (seat_market w).reviewers
    in_market = omega (arith, seat_there of, length-reviewers w)

    in_standings : s < length standings
    in_standings = omega (arith, seat_there of, a.way.seats_each)

    -- it holds somebody whom r likes better
    pub seat_keeps : get_or standings s 0 ≤ place → IsProposing w b r (k + 1) q place places standings
    seat_keeps le =
        let keeps : get_or market s 0 ≤ seat_place_of (seat_market w).reviewers s q = elim (a.way.seats r k below) [
          | inl free ↦ absurd (omega (arith, free.written_is, le, a.place_is, a.acceptable.reviewer_lists))
          | inr it ↦ elim (cases_lt seat_rank (place_on (mutual_row w.reviewers w.proposers r) it.holder)) [
            | inl lt ↦ absurd (omega (arith, order_back (mutual_turned mutual_) (mutual_turned (acceptable_mutual it.acceptable)) lt, it.written_is, le, a.place_is))
            | inr ge ↦ omega (arith, it.is, rank, ge)
          ]
        ] in
        goes_on k a.way a.below (refused_is_turned_down (is_market h) a.way.progress is on keeps) a.acceptable a.at_is a.place_is a.next_is

    -- it is free, or holds somebody whom r likes less
    takes : place < get_or standings s 0 → TakesProposal (seat_market w) q s market (set market s (seat_place_of (seat_market w).reviewers s q))
    takes lt = record {
      prefers = elim (a.way.seats r k below) [
        | inl free ↦ omega (arith, free.is, rank, mutual_on_row (mutual_turned mutual_))
        | inr it ↦ omega (arith, it.is, rank, order_kept (mutual_turned mutual_) (mutual_turned (acceptable_mutual it.acceptable)) (omega (arith, it.written_is, lt, a.place_is)))
      ];
      stands = refl;
    }

    -- then the proposer rests there, and somebody else is away, or nobody
    rests_there : (other : ℕ) → IsProgress (seat_market w) b other next (set market s (seat_place_of (seat_market w).reviewers s q)) → IsUnderWay w b other places (set standings s place)
    rests_there other progress =
        let j : ℕ = seat_place_of (seat_market w).reviewers s q in
        let in_marks : s < length market = omega (arith, in_market, a.way.progress.reviewers_each) in
        record {
          next = next;
          market = set market s j;
          progress = progress;
          proposers_each = a.way.proposers_each;
          seats_each = length-set standings s place ∙ a.way.seats_each;
          seats = λ x y less.
              let t : ℕ = seats_before w x + y in
              elim (cases_eq t s) [
                | inl same ↦
                    let of_t : IsSeatOf w t r k = record { is = same; below = below } in
                    let is_x : r ≡ x = one_reviewer of_t (record { is = refl; below = less }) in
                    let Q : ℕ → Type 0 = λ z. IsHolding w z (get_or (set market s j) t 0) (get_or (set standings s place) t 0) in
                    inr (subst Q is_x (record {
                      holder = q;
                      acceptable = a.acceptable;
                      is = ap (λ i. get_or (set market s j) i 0) same ∙ get_or-set_same market s j 0 in_marks ∙ rank;
                      written_is = ap (λ i. get_or (set standings s place) i 0) same ∙ get_or-set_same standings s place 0 in_standings ∙ a.place_is;
                    }))
                | inr ne ↦
                    let one : get_or market t 0 ≡ get_or (set market s j) t 0 = sym (get_or-set_other market s t j 0 ne) in
                    let two : get_or standings t 0 ≡ get_or (set standings s place) t 0 = sym (get_or-set_other standings s t place 0 ne) in
                    let Q : ℕ → Type 0 = λ z. IsFree w x z (get_or (set standings s place) t 0) ⊎ IsHolding w x z (get_or (set standings s place) t 0) in
                    let R : ℕ → Type 0 = λ z. IsFree w x (get_or market t 0) z ⊎ IsHolding w x (get_or market t 0) z in
                    subst Q one (subst R two (a.way.seats x y less))
              ];
          rest = λ p lt ne. elim (cases_eq p q) [
            | inl same ↦
                let Q : ℕ → Type 0 = λ z. IsSeated w z (get_or places z 0) (get_or next z 0) ⊎ IsAtEnd w z (get_or places z 0) (get_or next z 0) in
                subst Q (sym same) (inl (record { reviewer = r; number = k; below = below; acceptable = a.acceptable; at_is = a.at_is; next_is = a.next_is }))
            | inr not_q ↦ a.way.rest p lt not_q
          ];
          later = a.way.later;
        }

    -- a free seat takes it in
    pub seat_takes_in : place < get_or standings s 0 → get_or standings s 0 ≡ length (row w.reviewers r) → IsUnderWay w b b places (set standings s place)
    seat_takes_in lt free =
        let was_free : get_or market s 0 ≡ length (seat_list (seat_market w).reviewers s) = elim (a.way.seats r k below) [
          | inl it ↦ it.is ∙ sym (length-list of)
          | inr it ↦ absurd (omega (arith, it.written_is, it.acceptable.reviewer_lists, free))
        ] in
        rests_there b (progress_taken_in (is_market h) a.way.progress is on a.below in_market (record { takes = takes lt; was_free = was_free }))

    -- a seat takes it for the one that it holds
    takes_for : (it : IsHolding w r (get_or market s 0) (get_or standings s 0)) → place < get_or standings s 0
        → IsProposing w b r (k + 1) it.holder (get_or standings s 0) places (set standings s place)
    unfolding rests_there
    takes_for it lt =
        let who : ℕ = it.holder in
        let l_row : List ℕ = mutual_row w.reviewers w.proposers r in
        let their = acceptable_mutual it.acceptable in
        let on_row : place_on l_row who < length l_row = mutual_on_row (mutual_turned their) in
        let holding : get_or market s 0 < length (seat_list (seat_market w).reviewers s) = omega (arith, it.is, on_row, length-list of) in
        let held_is : seat_entry (seat_market w).reviewers s (get_or market s 0) ≡ who =
        ap (λ l. get_or l (get_or market s 0) 0) (row-seat of) ∙ ap (λ i. get_or l_row i 0) it.is ∙ get_or-place_on l_row who on_row in
        let for_ : IsTakenFor (seat_market w) q s who market (set market s (seat_place_of (seat_market w).reviewers s q)) = record { takes = takes lt; held_one = holding; lets_go = sym held_is } in
        let made = progress_taken_for (is_market h) a.way.progress is on a.below in_market for_ in
        let before : who < b = let lt' = a.way.progress.holds_begun s holding in omega (arith, lt', held_is) in
        let not_q : who ≢ q = λ same. a.way.progress.away_is_free s holding (held_is ∙ same) in
        let next_who : get_or next who 0 ≡ seat_place_of (seat_market w).proposers who s = subst (λ (x : ℕ). get_or next x 0 ≡ seat_place_of (seat_market w).proposers x s) held_is (a.way.progress.holds_next s holding) in
        let listed : seat_place_of (seat_market w).proposers who s < length (seat_list (seat_market w).proposers who) =
        subst (λ (x : ℕ). seat_place_of (seat_market w).proposers x s < length (seat_list (seat_market w).proposers x)) held_is ((is_market h).reviewers.returned s (get_or market s 0) holding) in
        let there : seat_entry (seat_market w).proposers who (get_or next who 0) ≡ s = ap (seat_entry (seat_market w).proposers who) next_who ∙ entry-place_of (seat_market w).proposers who s listed in
        let g = rests_there who made.0 in
        elim (a.way.rest who before not_q) [
          | inl seat ↦
              let m = acceptable_mutual seat.acceptable in
              let placed_there = placed {w = w} {p = who} {r = seat.reviewer} {k = seat.number} m seat.below in
              let next_is : get_or next who 0 ≡ first_place w who seat.reviewer + seat.number =
              seat.next_is ∙ ap (λ i. seats_listed w who i + seat.number) seat.at_is ∙ ap (λ n. n + seat.number) (begin_of-first_place w m) in
              let other_of : IsSeatOf w s seat.reviewer seat.number = record { is = sym there ∙ ap (seat_entry (seat_market w).proposers who) next_is ∙ placed_there.names; below = seat.below } in
              let same_r : seat.reviewer ≡ r = one_reviewer other_of of in
              let same_k : seat.number ≡ k = one_number other_of of in
              goes_on k g before made.1 it.acceptable (seat.at_is ∙ ap (place_of w.proposers who) same_r) it.written_is (omega (arith, seat.next_is, same_k))
          | inr end ↦ absurd (omega (arith, end.next_is, listed_all w who (get_or places who 0) end.at_is, next_who, listed))
        ]

    -- who then goes on to the next seat
    pub seat_takes_for : place < get_or standings s 0 → get_or standings s 0 ≢ length (row w.reviewers r)
        → IsProposing w b r (k + 1) (entry w.reviewers r (get_or standings s 0)) (get_or standings s 0) places (set standings s place)
    seat_takes_for lt held = elim (a.way.seats r k below) [
      | inl free ↦ absurd (held free.written_is)
      | inr it ↦
          let who : entry w.reviewers r (get_or standings s 0) ≡ it.holder = ap (entry w.reviewers r) it.written_is ∙ get_or-place_on (row w.reviewers r) it.holder it.acceptable.reviewer_lists in
          let Q : ℕ → Type 0 = λ x. IsProposing w b r (k + 1) x (get_or standings s 0) places (set standings s place) in
          subst Q (sym who) (takes_for it lt)
    ]

  -- The same for a seat by its number in the market, where r's first seat has the number `from`.

  module _ {b q place r from seat : ℕ} {places standings : List ℕ} (a : IsProposing w b r (seat - from) q place places standings) (first : from ≡ seats_before w r) (ge : from ≤ seat) (lt : seat < from + seat_count w r) where
    number_below : seat - from < seat_count w r
    number_below = omega (arith, ge, lt)

    seat_is : seats_before w r + (seat - from) ≡ seat
    seat_is = omega (arith, first, ge)

    next_number : seat - from + 1 ≡ seat + 1 - from
    next_number = omega (arith, ge)

    -- there is such a seat
    pub seat_in : seat < length standings
    seat_in = omega (arith, in_standings a number_below, seat_is)

    -- whom it holds is on r's list
    pub holder_on : get_or standings seat 0 ≢ length (row w.reviewers r) → get_or standings seat 0 < length (row w.reviewers r)
    holder_on held =
        let Q : ℕ → Type 0 = λ x. get_or standings x 0 ≢ length (row w.reviewers r) → get_or standings x 0 < length (row w.reviewers r) in
        subst Q seat_is (λ ne. elim (a.way.seats r (seat - from) number_below) [
          | inl free ↦ absurd (ne free.written_is)
          | inr it ↦ omega (arith, it.written_is, it.acceptable.reviewer_lists)
        ]) held

    pub keeps : get_or standings seat 0 ≤ place → IsProposing w b r (seat + 1 - from) q place places standings
    keeps le =
        let Q : ℕ → Type 0 = λ x. get_or standings x 0 ≤ place in
        let R : ℕ → Type 0 = λ n. IsProposing w b r n q place places standings in
        subst R next_number (seat_keeps a number_below (subst Q (sym seat_is) le))

    pub takes_in : place < get_or standings seat 0 → get_or standings seat 0 ≡ length (row w.reviewers r) → IsUnderWay w b b places (set standings seat place)
    takes_in =
        let Q : ℕ → Type 0 = λ x. place < get_or standings x 0 → get_or standings x 0 ≡ length (row w.reviewers r) → IsUnderWay w b b places (set standings x place) in
        subst Q seat_is (seat_takes_in a number_below)

    pub takes_one : place < get_or standings seat 0 → get_or standings seat 0 ≢ length (row w.reviewers r)
        → IsProposing w b r (seat + 1 - from) (entry w.reviewers r (get_or standings seat 0)) (get_or standings seat 0) places (set standings seat place)
    takes_one =
        let Q : ℕ → Type 0 = λ x. place < get_or standings x 0 → get_or standings x 0 ≢ length (row w.reviewers r)
        → IsProposing w b r (seat + 1 - from) (entry w.reviewers r (get_or standings x 0)) (get_or standings x 0) places (set standings x place) in
        let R : ℕ → Type 0 = λ n. IsProposing w b r n (entry w.reviewers r (get_or standings (seats_before w r + (seat - from)) 0)) (get_or standings (seats_before w r + (seat - from)) 0) places (set standings (seats_before w r + (seat - from)) place) in
        subst Q seat_is (λ less held. subst R next_number (seat_takes_for a number_below less held))

module _ {w : Written} (i : IsInstance w) where
  -- nobody is further than the longest list allows
  place-le : {b q : ℕ} {places standings : List ℕ} → IsArriving w b q places standings → (p : ℕ) → get_or places p 0 ≤ most_agents
  place-le {b} {q} {places} a p = elim (cases_lt p b) [
    | inl lt ↦ elim (cases_eq p q) [
      | inl same ↦ subst (λ (x : ℕ). get_or places x 0 ≤ most_agents) (sym same) (omega (arith, a.on_list, proposer_row_fits i q))
      | inr other ↦ elim (a.way.rest p lt other) [
        | inl seat ↦ omega (arith, seat.at_is, seat.acceptable.proposer_lists, proposer_row_fits i p)
        | inr end ↦ omega (arith, end.at_is, proposer_row_fits i p)
      ]
    ]
    | inr ge ↦ omega (arith, (a.way.later p ge).0)
  ]

  -- whoever is turned away leaves fewer
  pub left_falls : {b q : ℕ} {before places standings : List ℕ} → IsTurnedAway w b q before places standings → left places < left before
  left_falls {b} {q} {before} {places} {standings} t =
      let there : q < length before = omega (arith, row_in_range w.proposers q (get_or before q 0) t.on_list, t.arriving.way.proposers_each, ap length t.moved, length-set before q (get_or before q 0 + 1)) in
      subst (λ xs. left xs < left before) (sym t.moved) (one_less before q there (λ k. subst (λ xs. get_or xs k 0 ≤ most_agents) t.moved (place-le t.arriving k)))

  -- a place fits, and so does the next one
  pub next_fits : {b q : ℕ} {places standings : List ℕ} → IsUnderWay w b q places standings → get_or places q 0 < length (row w.proposers q) → Fits w32 (get_or places q 0 + 1)
  next_fits {q = q} g on = omega (arith, proposer_row_fits i q)

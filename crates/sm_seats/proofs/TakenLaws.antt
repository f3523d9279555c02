-- A matching of the instance takes seats, and is a stable matching of the seats where it is stable.
use Rattle.std.proofs.Common.{◌≡◌, ℕ, ◌+◌, ◌<◌, ◌⊎◌, true, false, List, Option, Some, None, length, get_or, unwrap_or, refl, sym, ap, ◌∙◌, arith, inl, inr, ext_get_or}
use Rattle.std.specs.Option.{option_map}
use Rattle.std.proofs.lemmas.Bool.{cases_lt, false≢true, cases_Bool}
use Rattle.std.proofs.lemmas.List.{get_or_past}
use Rattle.std.proofs.lemmas.List.FromFn.{get_or-map-range_with_len, length-map-range_with_len}
use Rattle.std.proofs.lemmas.Option.{none-some, same_Some}
use Rattle.sm_lists.specs.Rows.{place_on}
use Rattle.sm_lists.proofs.PlaceLemmas.{get_or-place_on, entry-place_of}
use Rattle.sm_agents.specs.Written.{Written, row as written_row, entry as written_entry, place_of as written_place_of, capacity_of}
use Rattle.sm_agents.specs.Faults.{HasSoundEntries}
use Rattle.sm_instance.specs.Matching.{held, standing as written_standing, is_at, load, IsMatching as IsWrittenMatching}
use Rattle.sm_instance.specs.Stable.{HasWorse, IsStable as IsWrittenStable}
use Rattle.sm_instance.proofs.LoadLemmas.{place_at, at_place}
use Rattle.sm_instance.proofs.PlaceLemmas.{place_of-entry}
use Rattle.sm_market.specs.Lists.{row, entry, place_of}
use Rattle.sm_market.specs.Matching.{standing}
use Rattle.sm_market.specs.Stable.{IsStable}
use Rattle.sm_market.specs.PairingFaults.{AreHeld}
use Rattle.sm_market.proofs.Core.{Fit, Pair, pair_at, pair_of'}
use Rattle.sm_market.proofs.Bridge.{sides_of, stand_of, standing-some}
use Rattle.sm_theory.specs.Lattice.{with_proposers}
use Rattle.sm_theory.proofs.Core.Seats.{fit_of_seats}
use Rattle.sm_theory.proofs.Bridge.Places.{seats_with, stable_with}
use Rattle.sm_seats.specs.SeatMarket.{seat_count, seats_before, seat_market}
use Rattle.sm_seats.specs.Seating.{seating_of, written_of, written_place}
use Rattle.sm_seats.specs.Taken.{seated, place_taken, places_taken}
use Rattle.sm_seats.proofs.MutualLemmas.{IsMutual, mutual_turned, mutual_acceptable, order_back, place_on-get_or}
use Rattle.sm_seats.proofs.SeatLemmas.{IsSeatOf, seat_count-le-capacity, one_reviewer, one_number}
use Rattle.sm_seats.proofs.SeatPlaces.{IsPlaced, first_place, placed, seat_on, seat_place, place_is, places_order}
use Rattle.sm_seats.proofs.MarketLaws.{is_market, length-proposers, place_of-seat_market}
use Rattle.sm_seats.proofs.LoadLaws.{item_at, seated_distinct, seated-le-row, mutual_at, sits, prefers, length-seated}
use Rattle.sm_seats.proofs.SeatingLemmas.{held-written_of}
use Rattle.sm_seats.proofs.WrittenLemmas.{written_place-seating, written_there}

-- a proposer is matched, and has a seat; or it is unmatched
pub record DoesTake (w : Written) (places : List (Option ℕ)) (p : ℕ) : Type 0 where
  pub written : ℕ
  pub reviewer : ℕ
  pub place : ℕ
  pub held_is : held places p ≡ Some written
  pub there : written_entry w.proposers p written ≡ reviewer
  pub at : is_at w places p reviewer ≡ true
  pub sits_there : place_on (seated w places reviewer) p < length (seated w places reviewer)
  pub placed_there : IsPlaced w p place reviewer (place_on (seated w places reviewer) p)
  pub taken_is : held (places_taken w places) p ≡ Some place
  pub stands : standing (seat_market w).proposers (places_taken w places) p ≡ place

-- a proposer that is unmatched has no seat, and stands past its list of seats
pub record TakesNone (w : Written) (places : List (Option ℕ)) (p : ℕ) : Type 0 where
  pub held_is : held places p ≡ None
  pub taken_is : held (places_taken w places) p ≡ None
  pub stands : standing (seat_market w).proposers (places_taken w places) p ≡ length (row (seat_market w).proposers p)

module _ {w : Written} (h : HasSoundEntries w) (places : List (Option ℕ)) (m : IsWrittenMatching w places) where
  -- a proposer that is matched takes the place of its seat, and another one takes none
  pub taken_held : (p : ℕ) → held (places_taken w places) p ≡ option_map (place_taken w places p) (held places p)
  taken_held p =
      let each : ℕ → Option ℕ = λ p. option_map (place_taken w places p) (held places p) in
      elim (cases_lt p (length w.proposers)) [
        | inl here ↦ get_or-map-range_with_len each 0 (length w.proposers) p p None here (omega arith)
        | inr past ↦
            let e = length-map-range_with_len each 0 (length w.proposers) in
            get_or_past (places_taken w places) p None (omega arith) ∙ ap (option_map _) (sym (get_or_past places p None (omega (arith, m.assigned.one_each))))
      ]

  -- there is a seat for each proposer
  pub below_count : (r k : ℕ) → k < length (seated w places r) → k < seat_count w r
  below_count r k less = omega (arith, length-seated h places m.acceptable r, m.within r, seated-le-row w places r)

  -- which of both
  pub taken_cases : (p : ℕ) → TakesNone w places p ⊎ DoesTake w places p
  taken_cases p = go (held places p) refl
    where
      go : (o : Option ℕ) → held places p ≡ o → TakesNone w places p ⊎ DoesTake w places p
      go None e =
          let none = taken_held p ∙ ap (option_map _) e in
          inl (record { held_is = e; taken_is = none; stands = ap (λ o. unwrap_or o (length (row (seat_market w).proposers p))) none })
      go (Some i) e =
          let r = written_entry w.proposers p i in
          let at = at_place w places p r i e refl in
          let both = mutual_at h places m.acceptable p r at in
          let k = place_on (seated w places r) p in
          let on = sits h places m.acceptable p r at in
          let below = below_count r k on in
          let it = placed {w = w} {p = p} {r = r} {k = k} both below in
          let some = taken_held p ∙ ap (option_map _) e ∙ ap Some (seat_place h both below) in
          inr (record {
            written = i;
            reviewer = r;
            place = first_place w p r + k;
            held_is = e;
            there = refl;
            at = at;
            sits_there = on;
            placed_there = it;
            taken_is = some;
            stands = ap (λ o. unwrap_or o (length (row (seat_market w).proposers p))) some;
          })

  -- the seat that p has
  seat_had : (p seat : ℕ) (it : DoesTake w places p) → place_of (seat_market w).proposers p seat ≡ standing (seat_market w).proposers (places_taken w places) p
      → IsSeatOf w seat it.reviewer (place_on (seated w places it.reviewer) p)
  seat_had p seat it e = record {
    is = sym (entry-place_of (seat_market w).proposers p seat (omega (arith, it.stands, it.placed_there.on))) ∙ ap (entry (seat_market w).proposers p) (e ∙ it.stands) ∙ it.placed_there.names;
    below = it.placed_there.below;
  }

  -- no seat is taken twice
  once : (p q seat : ℕ) → standing (seat_market w).proposers (places_taken w places) p < length (row (seat_market w).proposers p)
      → standing (seat_market w).proposers (places_taken w places) q < length (row (seat_market w).proposers q)
      → place_of (seat_market w).proposers p seat ≡ standing (seat_market w).proposers (places_taken w places) p
      → place_of (seat_market w).proposers q seat ≡ standing (seat_market w).proposers (places_taken w places) q → p ≡ q
  once p q seat on on' e e' = elim (taken_cases p) [
    | inl alone ↦ absurd (omega (arith, alone.stands))
    | inr a ↦ elim (taken_cases q) [
      | inl alone ↦ absurd (omega (arith, alone.stands))
      | inr b ↦
          let one = seat_had p seat a e in
          let two = seat_had q seat b e' in
          let r_is : a.reviewer ≡ b.reviewer = one_reviewer one two in
          let k_is : place_on (seated w places a.reviewer) p ≡ place_on (seated w places b.reviewer) q = one_number one two in
          sym (get_or-place_on (seated w places a.reviewer) p a.sits_there) ∙ (λ t. get_or (seated w places (r_is t)) (k_is t) 0) ∙ get_or-place_on (seated w places b.reviewer) q b.sits_there
    ]
  ]

  -- there is a place for each proposer
  pub taken_long : length (places_taken w places) ≡ length (seat_market w).proposers
  taken_long = length-map-range_with_len (λ p. option_map (place_taken w places p) (held places p)) 0 (length w.proposers) ∙ sym (length-proposers w)

  -- it is on its list
  pub taken_on : (p i : ℕ) → held (places_taken w places) p ≡ Some i → i < length (row (seat_market w).proposers p)
  taken_on p i e = elim (taken_cases p) [
    | inl alone ↦ absurd (none-some _ (sym alone.taken_is ∙ e))
    | inr it ↦ omega (arith, same_Some _ _ (sym it.taken_is ∙ e), it.placed_there.on)
  ]

  -- so the proposers can hold these places together
  pub taken_fit : Fit (sides_of (seat_market w) (is_market h)) (stand_of (seat_market w) (with_proposers (seat_market w) (places_taken w places)))
  taken_fit = fit_of_seats {s = sides_of (seat_market w) (is_market h)} {m = stand_of (seat_market w) (with_proposers (seat_market w) (places_taken w places))}
      (λ p. elim (taken_cases p) [ inl alone ↦ omega (arith, alone.stands) | inr it ↦ omega (arith, it.stands, it.placed_there.on) ])
      once (seats_with (is_market h) (places_taken w places))

  -- so they can be held
  pub taken_are_held : AreHeld (seat_market w) (places_taken w places)
  taken_are_held = record {
    one_each = taken_long;
    on_lists = λ p past. (let on = taken_on p past.at past.holds in let le = past.past in omega arith);
    untaken = λ p taken.
        let q = taken.earlier in
        let seat = entry (seat_market w).proposers p taken.at in
        let on = taken_on p taken.at taken.holds in
        let on' = taken_on q taken.there taken.earlier_holds in
        let stands = standing-some (seat_market w).proposers (places_taken w places) p taken.at taken.holds in
        let stands' = standing-some (seat_market w).proposers (places_taken w places) q taken.there taken.earlier_holds in
        let here = (sides_of (seat_market w) (is_market h)).left.place_at p taken.at on in
        let there = (sides_of (seat_market w) (is_market h)).left.place_at q taken.there on' in
        let same = ap (place_of (seat_market w).proposers q) taken.same in
        let e = once p q seat (omega arith) (omega arith) (omega arith) (omega arith) in
        let before = taken.before in
        omega arith;
  }

  -- to forget the seats gives the matching
  pub taken_forgotten : written_of (seating_of w) (places_taken w places) ≡ places
  taken_forgotten =
      let n = length (seat_market w).proposers in
      let each : ℕ → Option ℕ = λ p. option_map (written_place (seating_of w) p) (held (places_taken w places) p) in
      ext_get_or None (written_of (seating_of w) (places_taken w places)) places (length-map-range_with_len each 0 n ∙ length-proposers w ∙ sym m.assigned.one_each)
      (λ p _. held-written_of (seating_of w) (places_taken w places) p taken_long ∙ elim (taken_cases p) [
        | inl alone ↦ ap (option_map _) alone.taken_is ∙ sym alone.held_is
        | inr it ↦
            let place : written_place_of w.proposers p it.reviewer ≡ it.written = place_of-entry h.proposers p it.reviewer it.written (m.assigned.on_lists p it.written it.held_is) it.there in
            ap (option_map _) it.taken_is ∙ ap Some (written_place-seating it.placed_there ∙ place) ∙ sym it.held_is
      ])

  -- who is at r has its seat there
  pub has_seat : (q r : ℕ) → is_at w places q r ≡ true
      → Pair (sides_of (seat_market w) (is_market h)) (stand_of (seat_market w) (with_proposers (seat_market w) (places_taken w places))) q (seats_before w r + place_on (seated w places r) q)
  has_seat q r at = elim (taken_cases q) [
    | inl alone ↦ absurd (let x = place_at w q r (held places q) at in none-some _ (sym alone.held_is ∙ x.1))
    | inr it ↦
        let x = place_at w q r (held places q) at in
        let r_is : it.reviewer ≡ r = sym it.there ∙ ap (written_entry w.proposers q) (same_Some _ _ (sym it.held_is ∙ x.1)) ∙ x.2 in
        let pair : Pair (sides_of (seat_market w) (is_market h)) (stand_of (seat_market w) (with_proposers (seat_market w) (places_taken w places))) q (seats_before w it.reviewer + place_on (seated w places it.reviewer) q) =
        pair_at {s = sides_of (seat_market w) (is_market h)} {m = stand_of (seat_market w) (with_proposers (seat_market w) (places_taken w places))} q _ taken_fit
        (omega (arith, it.stands, it.placed_there.on)) (place_is h it.placed_there ∙ sym it.stands) in
        rw r_is at pair
  ]

  -- and whoever has the k-th seat of r is the k-th of those at r
  pub record SitsAs (q r k : ℕ) : Type 0 where
    pub at : is_at w places q r ≡ true
    pub number_is : place_on (seated w places r) q ≡ k

  -- whoever has the k-th seat of r sits as the k-th of those at r
  pub sits_as : (q seat r k : ℕ) → Pair (sides_of (seat_market w) (is_market h)) (stand_of (seat_market w) (with_proposers (seat_market w) (places_taken w places))) q seat
      → IsSeatOf w seat r k → SitsAs q r k
  sits_as q seat r k pair s = elim (taken_cases q) [
    | inl alone ↦ absurd (omega (arith, alone.stands, pair.matched))
    | inr it ↦
        let mine = seat_had q seat it pair.place_is in
        let r_is : it.reviewer ≡ r = one_reviewer mine s in
        record { at = rw r_is at it.at; number_is = ap (λ x. place_on (seated w places x) q) (sym r_is) ∙ one_number mine s }
  ]

  -- a seat that somebody has, or nobody
  pub seat_filled : (r k : ℕ) → k < length (seated w places r)
      → Pair (sides_of (seat_market w) (is_market h)) (stand_of (seat_market w) (with_proposers (seat_market w) (places_taken w places))) (get_or (seated w places r) k 0) (seats_before w r + k)
  seat_filled r k on =
      let pair = has_seat (get_or (seated w places r) k 0) r (item_at w places r k on) in
      rw (place_on-get_or (seated w places r) k (seated_distinct h places r) on) at pair

module _ {w : Written} (h : HasSoundEntries w) (places : List (Option ℕ)) (s : IsWrittenStable w places) where
  -- who is at r has a seat there that is no worse than the k-th, where r doesn't like it more than whoever has that
  blocked_inside : (p seat r k : ℕ) → IsSeatOf w seat r k → place_of (seat_market w).proposers p seat ≡ first_place w p r + k
      → place_of (seat_market w).proposers p seat < standing (seat_market w).proposers (places_taken w places) p
      → place_of (seat_market w).reviewers seat p < standing (seat_market w).reviewers (with_proposers (seat_market w) (places_taken w places)).reviewers seat
      → is_at w places p r ≡ true → ⊥
  blocked_inside p seat r k of place better gains at =
      let mine = has_seat h places s.matching p r at in
      let both = mutual_at h places s.matching.acceptable p r at in
      let on = sits h places s.matching.acceptable p r at in
      let mine_is = seat_place h both (below_count h places s.matching r (place_on (seated w places r) p) on) in
      let less : k < place_on (seated w places r) p = omega (arith, mine.place_is) in
      let q = get_or (seated w places r) k 0 in
      let filled = seat_filled h places s.matching r k (omega arith) in
      let number = place_on-get_or (seated w places r) k (seated_distinct h places r) (omega arith) in
      let liked = prefers h places s.matching.acceptable q p r (item_at w places r k (omega arith)) at (omega arith) in
      let seat_is : standing (seat_market w).reviewers (with_proposers (seat_market w) (places_taken w places)).reviewers seat
      ≡ standing (seat_market w).reviewers (with_proposers (seat_market w) (places_taken w places)).reviewers (seats_before w r + k) =
      ap (standing (seat_market w).reviewers (with_proposers (seat_market w) (places_taken w places)).reviewers) of.is in
      let here : IsSeatOf w (seats_before w r + k) r k = record { is = refl; below = of.below } in
      omega (arith, place_of-seat_market of p, place_of-seat_market here q, filled.rank_is)

  -- r would rather have p than stay as it is, where its k-th seat would
  reviewer_gains : (p seat r k : ℕ) → IsSeatOf w seat r k → IsMutual w.proposers w.reviewers p r
      → place_of (seat_market w).reviewers seat p < standing (seat_market w).reviewers (with_proposers (seat_market w) (places_taken w places)).reviewers seat
      → (load w places r < capacity_of w.reviewers r) ⊎ HasWorse w places r p
  reviewer_gains p seat r k of both gains =
      let m = with_proposers (seat_market w) (places_taken w places) in
      elim (cases_lt (standing (seat_market w).reviewers m.reviewers seat) (length (row (seat_market w).reviewers seat))) [
        | inl has ↦
            let pair = pair_of' {s = sides_of (seat_market w) (is_market h)} {m = stand_of (seat_market w) m} seat (taken_fit h places s.matching) has in
            let q = entry (seat_market w).reviewers seat (standing (seat_market w).reviewers m.reviewers seat) in
            let it = sits_as h places s.matching q seat r k pair of in
            let x = place_at w q r (held places q) it.at in
            let his = mutual_at h places s.matching.acceptable q r it.at in
            inr (record {
              other = q;
              at = x.0;
              holds = x.1;
              there = x.2;
              worse = order_back (mutual_turned both) (mutual_turned his) (omega (arith, place_of-seat_market of p, place_of-seat_market of q, pair.rank_is));
            })
        | inr free ↦ inl (elim (cases_lt k (length (seated w places r))) [
          | inl less ↦ absurd (
              let pair = seat_filled h places s.matching r k less in
              let a = ap (standing (seat_market w).reviewers m.reviewers) of.is in
              let b = ap (λ x. length (row (seat_market w).reviewers x)) of.is in
              omega (arith, pair.matched'))
          | inr few ↦ omega (arith, length-seated h places s.matching.acceptable r, of.below, seat_count-le-capacity w r)
        ])
      ]

  -- p would rather have r than stay as it is, where it would rather have a seat of r and isn't there
  proposer_gains : (p r k : ℕ) → IsMutual w.proposers w.reviewers p r → first_place w p r + k < standing (seat_market w).proposers (places_taken w places) p
      → is_at w places p r ≡ false → written_place_of w.proposers p r < written_standing w places p
  proposer_gains p r k both better no_ = elim (taken_cases h places s.matching p) [
    | inl alone ↦
        let stands : written_standing w places p ≡ length (written_row w.proposers p) = ap (λ o. unwrap_or o (length (written_row w.proposers p))) alone.held_is in
        omega (arith, both.lists, stands)
    | inr it ↦
        let stands : written_standing w places p ≡ it.written = ap (λ o. unwrap_or o (length (written_row w.proposers p))) it.held_is in
        let place : written_place_of w.proposers p it.reviewer ≡ it.written = place_of-entry h.proposers p it.reviewer it.written (s.matching.assigned.on_lists p it.written it.held_is) it.there in
        elim (cases_lt (written_place_of w.proposers p r) (written_place_of w.proposers p it.reviewer)) [
          | inl less ↦ omega (arith, stands, place)
          | inr ge ↦ elim (cases_lt (written_place_of w.proposers p it.reviewer) (written_place_of w.proposers p r)) [
            | inl less ↦ absurd (omega (arith, places_order w it.placed_there.mutual_ both less, it.placed_there.is, it.placed_there.below, it.stands))
            | inr le ↦
                let same : written_place_of w.proposers p it.reviewer ≡ written_place_of w.proposers p r = omega arith in
                let r_is : it.reviewer ≡ r = sym (written_there w it.placed_there.mutual_) ∙ ap (written_entry w.proposers p) same ∙ written_there w both in
                absurd (false≢true (sym no_ ∙ ap (is_at w places p) (sym r_is) ∙ it.at))
          ]
        ]
  ]

  unblocked : (p seat : ℕ) → place_of (seat_market w).proposers p seat < length (row (seat_market w).proposers p)
      → place_of (seat_market w).proposers p seat < standing (seat_market w).proposers (places_taken w places) p
      → place_of (seat_market w).reviewers seat p < standing (seat_market w).reviewers (with_proposers (seat_market w) (places_taken w places)).reviewers seat → ⊥
  unblocked p seat on better gains =
      let it = seat_on h p (place_of (seat_market w).proposers p seat) on in
      let of : IsSeatOf w seat it.reviewer it.number = record { is = sym (entry-place_of (seat_market w).proposers p seat on) ∙ it.at.names; below = it.at.below } in
      elim (cases_Bool (is_at w places p it.reviewer)) [
        | inl yes_ ↦ blocked_inside p seat it.reviewer it.number of it.at.is better gains yes_
        | inr no_ ↦ s.unblocked p it.reviewer (record {
          acceptable = mutual_acceptable {w = w} it.at.mutual_;
          proposer_gains = proposer_gains p it.reviewer it.number it.at.mutual_ (omega (arith, it.at.is, better)) no_;
          reviewer_gains = reviewer_gains p seat it.reviewer it.number of it.at.mutual_ gains;
        })
      ]

  -- a stable matching of the instance is one of the seats
  pub stable_taken : IsStable (seat_market w) (with_proposers (seat_market w) (places_taken w places))
  stable_taken = stable_with (is_market h) (places_taken w places) (taken_long h places s.matching) (taken_on h places s.matching) (record { fit = taken_fit h places s.matching; unblocked = unblocked })

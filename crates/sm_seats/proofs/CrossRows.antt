-- The lists and the cross places that are made are those of the market of seats.
use Rattle.std.proofs.Common.{◌≡◌, ℕ, zero, suc, ◌+◌, ◌<◌, ◌≤◌, ◌++◌, ◌∷◌, [], List, length, take, map, get_or, replicate, refl, sym, ap, ◌∙◌, arith, inl, inr}
use Rattle.std.specs.List.{flat_map, range_with_len}
use Rattle.std.proofs.lemmas.Bool.{cases_lt}
use Rattle.std.proofs.lemmas.List.{get_or_past, get_or-map, length-map, length-append, length-replicate, get_or-replicate, map-append}
use Rattle.std.proofs.lemmas.List.Concat.{get_or-flat_map}
use Rattle.std.proofs.lemmas.List.FromFn.{get_or-range_with_len, length-range_with_len, get_or-map-range_with_len, length-map-range_with_len}
use Rattle.sm_lists.specs.Rows.{place_on}
use Rattle.sm_lists.proofs.PlaceLemmas.{get_or-place_on}
use Rattle.sm_lists.proofs.RowLemmas.{row_in_range}
use Rattle.sm_agents.specs.Written.{Written}
use Rattle.sm_agents.specs.Faults.{HasSoundEntries}
use Rattle.sm_market.specs.Lists.{row, entry, place_of}
use Rattle.sm_market.specs.Crosses.{AreCrosses}
use Rattle.sm_seats.specs.Mutual.{mutual_row}
use Rattle.sm_seats.specs.SeatMarket.{seat_count, seats_before, seats_at, named_seats, seat_row, row_of_seat, seat_market}
use Rattle.sm_seats.specs.Tables.{crosses_at, cross_row, begin_of, seat_crosses, lists_for, crosses_for}
use Rattle.sm_seats.specs.ProposerRows.{cross_rows_of}
use Rattle.sm_seats.specs.ReviewerRows.{seat_lists_before, seat_crosses_before}
use Rattle.sm_seats.proofs.MutualLemmas.{IsMutual, mutual_turned, mutual_on_row, entry_mutual}
use Rattle.sm_seats.proofs.PieceLemmas.{take-range}
use Rattle.sm_seats.proofs.SeatLemmas.{IsSeatOf, has_seats, seat_found, length-names, length-named, length-reviewers, row-seat, listed_seat}
use Rattle.sm_seats.proofs.SeatPlaces.{partners, row_is, IsPlaced, seat_at_place, seat_on, seat_place}
use Rattle.sm_seats.proofs.MarketLaws.{length-proposers, place_of-seat_market, length-list}
use Rattle.sm_seats.proofs.TableLemmas.{begin_of-first_place}

-- Lists that are joined from pieces of the same lengths.

length-flat_map_same : {X A B : Type 0} (f : X → List A) (g : X → List B) → ((x : X) → length (f x) ≡ length (g x)) → (xs : List X) → length (flat_map f xs) ≡ length (flat_map g xs)
length-flat_map_same f g same [] = refl
length-flat_map_same f g same (x ∷ xs) =
    omega (arith, length-append (f x) (flat_map f xs), length-append (g x) (flat_map g xs), same x, length-flat_map_same f g same xs)

map-flat_map : {X A B : Type 0} (f : A → B) (g : X → List A) (xs : List X) → map f (flat_map g xs) ≡ flat_map (λ x. map f (g x)) xs
map-flat_map f g [] = refl
map-flat_map f g (x ∷ xs) = map-append f (g x) (flat_map g xs) ∙ ap (λ l. map f (g x) ++ l) (map-flat_map f g xs)

flat_map_same : {X A : Type 0} (f g : X → List A) → ((x : X) → f x ≡ g x) → (xs : List X) → flat_map f xs ≡ flat_map g xs
flat_map_same f g same [] = refl
flat_map_same f g same (x ∷ xs) = ap (λ l. l ++ flat_map f xs) (same x) ∙ ap (λ l. g x ++ l) (flat_map_same f g same xs)

-- functions that agree everywhere make the same list of a list
pub map_same : {X A : Type 0} (f g : X → A) → ((x : X) → f x ≡ g x) → (xs : List X) → map f xs ≡ map g xs
map_same f g same [] = refl
map_same f g same (x ∷ xs) = ap (λ y. y ∷ map f xs) (same x) ∙ ap (λ l. g x ∷ l) (map_same f g same xs)

-- a row of a table that a function gives
row_of : (f : ℕ → List ℕ) (n a : ℕ) → a < n → row (map f (range_with_len 0 n)) a ≡ f a
row_of f n a here = get_or-map-range_with_len f 0 n a a [] here (omega arith)

no_row : (f : ℕ → List ℕ) (n a : ℕ) → n ≤ a → row (map f (range_with_len 0 n)) a ≡ []
no_row f n a past = get_or_past (map f (range_with_len 0 n)) a [] (omega (arith, length-map-range_with_len f 0 n))

-- The proposers' side.

-- something that each reviewer has as often as it has seats, along p's list of seats
module _ {w : Written} {p i r k : ℕ} (it : IsPlaced w p i r k) where
  -- at the place of the k-th seat of r stands what r has for that seat
  pub along : (f : ℕ → List ℕ) → ((x : ℕ) → length (f x) ≡ seat_count w x) → get_or (flat_map f (partners w p)) i 0 ≡ get_or (f r) k 0
  along f same =
      let ps : List ℕ = partners w p in
      let at : ℕ = place_on ps r in
      let there : at < length ps = mutual_on_row it.mutual_ in
      let this : get_or ps at 0 ≡ r = get_or-place_on ps r there in
      let long = ap (λ x. length (f x)) this ∙ same r in
      let begins = length-flat_map_same f (seats_at w) (λ x. same x ∙ sym (length-range_with_len (seats_before w x) (seat_count w x))) (take at ps) in
      ap (λ j. get_or (flat_map f ps) j 0) (let e : i ≡ length (flat_map f (take at ps)) + k = omega (arith, it.is, begins) in e)
      ∙ get_or-flat_map f ps at k 0 0 there (omega (arith, long, it.below))
      ∙ ap (λ x. get_or (f x) k 0) this

length-along : (w : Written) (p : ℕ) (f : ℕ → List ℕ) → ((x : ℕ) → length (f x) ≡ seat_count w x) → length (flat_map f (partners w p)) ≡ length (row (seat_market w).proposers p)
length-along w p f same =
    length-flat_map_same f (seats_at w) (λ x. same x ∙ sym (length-range_with_len (seats_before w x) (seat_count w x))) (partners w p) ∙ sym (ap length (row_is w p))

length-crosses_at : (w : Written) (p r : ℕ) → length (crosses_at w p r) ≡ seat_count w r
length-crosses_at w p r = length-replicate (seat_count w r) (place_on (mutual_row w.reviewers w.proposers r) p)

-- the rows that are made for the proposers are their cross places in the market of seats
pub proposers_crossed : {w : Written} → HasSoundEntries w → AreCrosses (seat_market w).proposers (seat_market w).reviewers (cross_rows_of w (length w.proposers))
proposers_crossed {w} h = record {
  one_each = length-map-range_with_len (cross_row w) 0 (length w.proposers) ∙ sym (length-proposers w);
  as_long = λ p. elim (cases_lt p (length w.proposers)) [
    | inl here ↦ ap length (row_of (cross_row w) (length w.proposers) p here) ∙ length-along w p (crosses_at w p) (length-crosses_at w p)
    | inr past ↦ ap length (no_row (cross_row w) (length w.proposers) p past) ∙ sym (ap length (no_row (seat_row w) (length w.proposers) p past))
  ];
  places = λ p i on.
      let here : p < length w.proposers = omega (arith, row_in_range (seat_market w).proposers p i on, length-proposers w) in
      let s = seat_on h p i on in
      ap (λ l. get_or l i 0) (row_of (cross_row w) (length w.proposers) p here)
      ∙ along s.at (crosses_at w p) (length-crosses_at w p)
      ∙ get_or-replicate (seat_count w s.reviewer) s.number (place_on (mutual_row w.reviewers w.proposers s.reviewer) p) 0 s.at.below
      ∙ sym (place_of-seat_market (seat_at_place s.at) p);
}

-- The reviewers' side.

rows_named : (w : Written) (r a n : ℕ) → replicate n (mutual_row w.reviewers w.proposers r) ≡ map (row_of_seat w) (map (λ (k : ℕ). (r, k)) (range_with_len a n))
rows_named w r a zero = refl
rows_named w r a (suc n) = ap (λ l. mutual_row w.reviewers w.proposers r ∷ l) (rows_named w r (a + 1) n)

-- the lists that are made of the reviewers' seats are those of the market
pub lists_made : (w : Written) → seat_lists_before w (length w.reviewers) ≡ (seat_market w).reviewers
lists_made w =
    flat_map_same (lists_for w) (λ r. map (row_of_seat w) (named_seats w r)) (λ r. rows_named w r 1 (seat_count w r)) (range_with_len 0 (length w.reviewers))
    ∙ sym (map-flat_map (row_of_seat w) (named_seats w) (range_with_len 0 (length w.reviewers)))

map-map : {X A B : Type 0} (g : A → B) (f : X → A) (xs : List X) → map g (map f xs) ≡ map (λ x. g (f x)) xs
map-map g f [] = refl
map-map g f (x ∷ xs) = ap (λ l. g (f x) ∷ l) (map-map g f xs)

-- the cross places of r's seats, from where they begin
pub raised_crosses : (w : Written) (r n : ℕ) (begins : List ℕ) → begins ≡ map (begin_of w r) (mutual_row w.reviewers w.proposers r)
    → map (λ (k : ℕ). map (λ (b : ℕ). b + k) begins) (range_with_len 0 n) ≡ map (seat_crosses w r) (range_with_len 0 n)
raised_crosses w r n begins is =
    map_same (λ (k : ℕ). map (λ (b : ℕ). b + k) begins) (seat_crosses w r)
    (λ k. ap (map (λ (b : ℕ). b + k)) is ∙ map-map (λ (b : ℕ). b + k) (begin_of w r) (mutual_row w.reviewers w.proposers r)) (range_with_len 0 n)

length-crosses_for : (w : Written) (r : ℕ) → length (crosses_for w r) ≡ seat_count w r
length-crosses_for w r = length-map-range_with_len (seat_crosses w r) 0 (seat_count w r)

length-crosses : (w : Written) (n : ℕ) → length (seat_crosses_before w n) ≡ seats_before w n
length-crosses w n =
    length-flat_map_same (crosses_for w) (named_seats w) (λ r. length-crosses_for w r ∙ sym (length-names w r)) (range_with_len 0 n) ∙ length-named w n

-- the cross places of a seat
crosses_of_seat : {w : Written} {seat r k : ℕ} → IsSeatOf w seat r k → row (seat_crosses_before w (length w.reviewers)) seat ≡ seat_crosses w r k
crosses_of_seat {w} {seat} {r} {k} s =
    let all : List ℕ = range_with_len 0 (length w.reviewers) in
    let there = has_seats w r k s.below in
    let this : get_or all r 0 ≡ r = get_or-range_with_len 0 (length w.reviewers) r 0 there ∙ (let e : 0 + r ≡ r = omega arith in e) in
    let long = ap (λ x. length (crosses_for w x)) this ∙ length-crosses_for w r in
    let before : length (flat_map (crosses_for w) (take r all)) ≡ seats_before w r =
    ap (λ l. length (flat_map (crosses_for w) l)) (take-range 0 (length w.reviewers) r (omega arith)) ∙ length-crosses w r in
    ap (λ i. get_or (flat_map (crosses_for w) all) i []) (let e : seat ≡ length (flat_map (crosses_for w) (take r all)) + k = omega (arith, s.is, before) in e)
    ∙ get_or-flat_map (crosses_for w) all r k 0 [] (omega (arith, length-range_with_len 0 (length w.reviewers))) (omega (arith, long, s.below))
    ∙ ap (λ x. get_or (crosses_for w x) k []) this
    ∙ get_or-map-range_with_len (seat_crosses w r) 0 (seat_count w r) k k [] s.below (omega arith)

-- the rows that are made for the reviewers' seats are their cross places in the market
pub reviewers_crossed : {w : Written} → HasSoundEntries w → AreCrosses (seat_market w).reviewers (seat_market w).proposers (seat_crosses_before w (length w.reviewers))
reviewers_crossed {w} h = record {
  one_each = length-crosses w (length w.reviewers) ∙ sym (length-reviewers w);
  as_long = λ seat. elim (cases_lt seat (seats_before w (length w.reviewers))) [
    | inl here ↦
        let s = seat_found w seat (length w.reviewers) here in
        ap length (crosses_of_seat s.of) ∙ length-map (mutual_row w.reviewers w.proposers s.reviewer) (λ p. begin_of w s.reviewer p + s.number) ∙ sym (length-list s.of)
    | inr past ↦
        ap length (get_or_past (seat_crosses_before w (length w.reviewers)) seat [] (omega (arith, length-crosses w (length w.reviewers))))
        ∙ sym (ap length (get_or_past (seat_market w).reviewers seat [] (omega (arith, length-reviewers w))))
  ];
  places = λ seat i on.
      let s = listed_seat w seat i on in
      let list : List ℕ = mutual_row w.reviewers w.proposers s.reviewer in
      let on_row : i < length list = omega (arith, length-list s.of) in
      let p : ℕ = get_or list i 0 in
      let m : IsMutual w.proposers w.reviewers p s.reviewer = mutual_turned (entry_mutual w.reviewers w.proposers s.reviewer i on_row) in
      let named : entry (seat_market w).reviewers seat i ≡ p = ap (λ l. get_or l i 0) (row-seat s.of) in
      ap (λ l. get_or l i 0) (crosses_of_seat s.of)
      ∙ get_or-map (λ q. begin_of w s.reviewer q + s.number) list i 0 0 on_row
      ∙ ap (λ n. n + s.number) (begin_of-first_place w m)
      ∙ sym (seat_place h m s.of.below)
      ∙ ap (place_of (seat_market w).proposers p) (sym s.of.is)
      ∙ ap (λ q. place_of (seat_market w).proposers q seat) (sym named);
}

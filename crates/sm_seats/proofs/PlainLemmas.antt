-- The lists of the seats where these are the written ones.
use Rattle.std.proofs.Common.{◌≡◌, ℕ, zero, suc, ◌+◌, ◌<◌, ◌≤◌, ◌++◌, ◌∷◌, [], cond, List, Option, Some, None, length, take, map, get_or, replicate, unwrap_or, refl, sym, ap, ◌∙◌, arith}
use Rattle.std.specs.List.{flat_map, range_with_len}
use Rattle.std.proofs.lemmas.List.{ext_get_or, get_or-map, length-map, length-take-le, take_all, take_more}
use Rattle.std.proofs.lemmas.List.FromFn.{get_or-map-range_with_len, length-map-range_with_len}
use Rattle.sm_lists.specs.Rows.{place_on}
use Rattle.sm_lists.specs.Places.{places_in}
use Rattle.sm_lists.proofs.RangeLemmas.{range_more}
use Rattle.sm_agents.specs.Written.{Written, AgentData, row, entry, place_of, lists_of}
use Rattle.sm_agents.specs.Sound.{IsInstance}
use Rattle.sm_instance.specs.Crosses.{AreCrossPlacesOf, AreCrossPlaces}
use Rattle.sm_instance.proofs.AcceptLemmas.{lt_true}
use Rattle.sm_instance.proofs.CrossLemmas.{row-lists_of}
use Rattle.sm_seats.specs.Mutual.{mutual_row}
use Rattle.sm_seats.specs.SeatMarket.{seat_count, seats_before, seats_at, named_seats, seat_row}
use Rattle.sm_seats.specs.Tables.{begin_of, crosses_at, cross_row, seat_crosses, lists_for, crosses_for}
use Rattle.sm_seats.specs.Plain.{IsPlain}
use Rattle.sm_seats.specs.ProposerRows.{seat_rows_of, cross_rows_of}
use Rattle.sm_seats.specs.ReviewerRows.{seat_crosses_before}
use Rattle.sm_seats.proofs.MutualLemmas.{IsMutual, mutual_turned, entry_mutual}
use Rattle.sm_seats.proofs.RowLemmas.{piece_pushed}
use Rattle.sm_seats.proofs.SeatLemmas.{seats_before_more}
use Rattle.sm_seats.proofs.TableLemmas.{begin_of-first_place}

-- pieces of one item each
one_each : {X : Type 0} (f : ℕ → List X) (g : ℕ → X) (xs : List ℕ) → ((i : ℕ) → i < length xs → f (get_or xs i 0) ≡ g (get_or xs i 0) ∷ []) → flat_map f xs ≡ map g xs
one_each f g [] one = refl
one_each f g (x ∷ xs) one = ap (λ l. l ++ flat_map f xs) (one 0 (omega arith)) ∙ ap (λ l. g x ∷ l) (one_each f g xs (λ i l. one (suc i) (omega arith)))

same_items : (xs : List ℕ) → map (λ (x : ℕ). x) xs ≡ xs
same_items [] = refl
same_items (x ∷ xs) = ap (λ l. x ∷ l) (same_items xs)

first_items : (xs : List ℕ) (n i : ℕ) → i < length (take n xs) → (get_or (take n xs) i 0 ≡ get_or xs i 0) × (i < length xs)
first_items [] zero i on = absurd (omega arith)
first_items [] (suc n) i on = absurd (omega arith)
first_items (x ∷ xs) zero i on = absurd (omega arith)
first_items (x ∷ xs) (suc n) zero on = (refl, omega arith)
first_items (x ∷ xs) (suc n) (suc i) on = let deep = first_items xs n i (omega arith) in (deep.0, omega (arith, deep.1))

module _ {w : Written} (h : IsInstance w) (plain : IsPlain w) where
  -- the seat of a reviewer has its number
  pub number_is : (r : ℕ) → r ≤ length w.reviewers → seats_before w r ≡ r
  number_is zero le = refl
  number_is (suc r) le =
      let more : seats_before w (suc r) ≡ seats_before w r + seat_count w r = ap (seats_before w) (let e : suc r ≡ r + 1 = omega arith in e) ∙ seats_before_more w r in
      omega (arith, more, number_is r (omega arith), (plain.reviewers r (omega arith)).one)

  -- it is the only seat of that reviewer
  pub seat_is : (r : ℕ) → r < length w.reviewers → seats_at w r ≡ r ∷ []
  seat_is r there = ap (range_with_len (seats_before w r)) (plain.reviewers r there).one ∙ ap (λ n. n ∷ []) (number_is r (omega arith))

  -- and has the number 1 there
  pub named_is : (r : ℕ) → r < length w.reviewers → named_seats w r ≡ (r, 1) ∷ []
  named_is r there = ap (λ n. map (λ (k : ℕ). (r, k)) (range_with_len 1 n)) (plain.reviewers r there).one

  in_range : (p i : ℕ) → i < length (row w.proposers p) → entry w.proposers p i < length w.reviewers
  in_range p i on = (h.proposer_entries.sound p i on).in_range

  -- the seats of the first reviewers on a list
  first_seats : (p n : ℕ) → flat_map (seats_at w) (take n (row w.proposers p)) ≡ take n (row w.proposers p)
  first_seats p n =
      one_each (seats_at w) (λ (x : ℕ). x) (take n (row w.proposers p)) (λ i on.
      let it = first_items (row w.proposers p) n i on in
      seat_is (get_or (take n (row w.proposers p)) i 0) (let there = in_range p i it.1 in omega (arith, it.0)))
      ∙ same_items (take n (row w.proposers p))

  module _ (p : ℕ) (there : p < length w.proposers) where
    -- so a proposer's list of seats is its written list
    pub seat_row_is : seat_row w p ≡ row w.proposers p
    seat_row_is =
        let whole = take_all (length (row w.proposers p)) (row w.proposers p) (omega arith) in
        ap (flat_map (seats_at w)) (plain.proposers p there ∙ sym whole) ∙ first_seats p (length (row w.proposers p)) ∙ whole

    -- whom a proposer lists, lists it
    mutual_at : (i : ℕ) → i < length (row w.proposers p) → IsMutual w.proposers w.reviewers p (entry w.proposers p i)
    mutual_at i on =
        let e = plain.proposers p there in
        let it = entry_mutual w.proposers w.reviewers p i (let long = ap length e in omega (arith, long)) in
        let named = ap (λ l. get_or l i 0) e in
        rw (sym named) it

    crosses_is : (i : ℕ) → i < length (row w.proposers p) → crosses_at w p (entry w.proposers p i) ≡ place_of w.reviewers (entry w.proposers p i) p ∷ []
    crosses_is i on =
        let x : ℕ = entry w.proposers p i in
        let it = plain.reviewers x (in_range p i on) in
        ap (λ n. replicate n (place_on (mutual_row w.reviewers w.proposers x) p)) it.one ∙ ap (λ l. place_on l p ∷ []) it.whole

    -- so the cross places along its list of seats are those along its written list
    pub cross_row_is : (crosses : List (Option ℕ)) → AreCrossPlacesOf w.proposers w.reviewers p crosses → places_in crosses ≡ cross_row w p
    cross_row_is crosses are =
        let list : List ℕ = row w.proposers p in
        let place : ℕ → ℕ = λ x. place_of w.reviewers x p in
        ext_get_or 0 (places_in crosses) (map place list) (omega (arith, length-map crosses (λ (o : Option ℕ). unwrap_or o 0), are.as_long, length-map list place))
        (λ i l.
        let on : i < length list = omega (arith, l, length-map crosses (λ (o : Option ℕ). unwrap_or o 0), are.as_long) in
        get_or-map (λ (o : Option ℕ). unwrap_or o 0) crosses i None 0 (omega (arith, are.as_long))
        ∙ ap (λ (o : Option ℕ). unwrap_or o 0) (are.places i on)
        ∙ ap (λ b. unwrap_or (cond b (Some (place (entry w.proposers p i))) None) 0) (lt_true _ _ (mutual_at i on).listed)
        ∙ sym (get_or-map place list i 0 0 on))
        ∙ sym (one_each (crosses_at w p) place list crosses_is)
        ∙ ap (flat_map (crosses_at w p)) (sym (plain.proposers p there))

  -- so the proposers' lists of seats are the written lists
  pub rows_are_written : seat_rows_of w (length w.proposers) ≡ lists_of w.proposers
  rows_are_written =
      let n : ℕ = length w.proposers in
      let rows = length-map-range_with_len (seat_row w) 0 n in
      let lists = length-map w.proposers (λ (agent : AgentData). agent.entries) in
      ext_get_or [] (seat_rows_of w n) (lists_of w.proposers) (rows ∙ sym lists)
      (λ p l.
      let there : p < n = omega (arith, l, rows) in
      get_or-map-range_with_len (seat_row w) 0 n p p [] there (omega arith) ∙ seat_row_is p there ∙ sym (row-lists_of w.proposers p))

  -- and the cross places along them are those of the instance
  pub crosses_are_written : (crosses : List (List (Option ℕ))) → AreCrossPlaces w.proposers w.reviewers crosses → map places_in crosses ≡ cross_rows_of w (length w.proposers)
  crosses_are_written crosses are =
      let n : ℕ = length w.proposers in
      let places = length-map crosses places_in in
      let rows = length-map-range_with_len (cross_row w) 0 n in
      ext_get_or [] (map places_in crosses) (cross_rows_of w n) (places ∙ are.one_each ∙ sym rows)
      (λ p l.
      let there : p < n = omega (arith, l, places, are.one_each) in
      get_or-map places_in crosses p [] [] (omega (arith, there, are.one_each))
      ∙ cross_row_is p there (get_or crosses p []) (are.of p there)
      ∙ sym (get_or-map-range_with_len (cross_row w) 0 n p p [] there (omega arith)))

  module _ (r : ℕ) (there : r < length w.reviewers) where
    -- the list of its one seat is the written one
    pub lists_for_is : lists_for w r ≡ row w.reviewers r ∷ []
    lists_for_is = ap (λ n. replicate n (mutual_row w.reviewers w.proposers r)) (plain.reviewers r there).one ∙ ap (λ l. l ∷ []) (plain.reviewers r there).whole

    mutual_by : (i : ℕ) → i < length (row w.reviewers r) → IsMutual w.proposers w.reviewers (entry w.reviewers r i) r
    mutual_by i on =
        let e = (plain.reviewers r there).whole in
        let it = mutual_turned (entry_mutual w.reviewers w.proposers r i (let long = ap length e in omega (arith, long))) in
        let named = ap (λ l. get_or l i 0) e in
        rw (sym named) it

    -- the seat of r stands in the place of r
    begins_at : (p : ℕ) → p < length w.proposers → IsMutual w.proposers w.reviewers p r → begin_of w r p ≡ place_of w.proposers p r
    begins_at p here m =
        let e = plain.proposers p here in
        let i : ℕ = place_of w.proposers p r in
        begin_of-first_place w m
        ∙ ap (λ (l : List ℕ). length (flat_map (seats_at w) (take (place_on l r) l))) e
        ∙ ap length (first_seats p i)
        ∙ length-take-le i (row w.proposers p) (let on = m.lists in omega arith)

    -- so the cross places on the list of that seat are those on the written list
    pub crosses_for_is : (crosses : List (Option ℕ)) → AreCrossPlacesOf w.reviewers w.proposers r crosses → places_in crosses ∷ [] ≡ crosses_for w r
    crosses_for_is crosses are =
        let list : List ℕ = row w.reviewers r in
        let begin : ℕ → ℕ = λ p. begin_of w r p + 0 in
        let places : places_in crosses ≡ map begin list =
        ext_get_or 0 (places_in crosses) (map begin list) (omega (arith, length-map crosses (λ (o : Option ℕ). unwrap_or o 0), are.as_long, length-map list begin))
        (λ i l.
        let on : i < length list = omega (arith, l, length-map crosses (λ (o : Option ℕ). unwrap_or o 0), are.as_long) in
        let p : ℕ = entry w.reviewers r i in
        let m = mutual_by i on in
        let at = begins_at p (h.reviewer_entries.sound r i on).in_range m in
        get_or-map (λ (o : Option ℕ). unwrap_or o 0) crosses i None 0 (omega (arith, are.as_long))
        ∙ ap (λ (o : Option ℕ). unwrap_or o 0) (are.places i on)
        ∙ ap (λ b. unwrap_or (cond b (Some (place_of w.proposers p r)) None) 0) (lt_true _ _ m.lists)
        ∙ (let e : place_of w.proposers p r ≡ begin p = omega (arith, at) in e)
        ∙ sym (get_or-map begin list i 0 0 on)) in
        ap (λ l. l ∷ []) (places ∙ ap (map begin) (sym (plain.reviewers r there).whole))
        ∙ ap (λ n. map (seat_crosses w r) (range_with_len 0 n)) (sym (plain.reviewers r there).one)

  -- the cross places along the lists of the first seats are those of the instance
  first_crosses : (crosses : List (List (Option ℕ))) → AreCrossPlaces w.reviewers w.proposers crosses → (n : ℕ) → n ≤ length w.reviewers → take n (map places_in crosses) ≡ seat_crosses_before w n
  first_crosses crosses are zero few = refl
  first_crosses crosses are (suc n) few =
      let there : n < length w.reviewers = omega arith in
      let places = length-map crosses places_in in
      let more : suc n ≡ n + 1 = omega arith in
      let here : get_or (map places_in crosses) n [] ∷ [] ≡ crosses_for w n =
      ap (λ l. l ∷ []) (get_or-map places_in crosses n [] [] (omega (arith, there, are.one_each))) ∙ crosses_for_is n there (get_or crosses n []) (are.of n there) in
      ap (λ k. take k (map places_in crosses)) more
      ∙ take_more (map places_in crosses) n [] (omega (arith, there, places, are.one_each))
      ∙ ap (λ l. l ++ get_or (map places_in crosses) n [] ∷ []) (first_crosses crosses are n (omega arith))
      ∙ ap (λ l. seat_crosses_before w n ++ l) here
      ∙ piece_pushed (crosses_for w) (range_with_len 0 n) n (seat_crosses_before w n) (seat_crosses_before w n ++ crosses_for w n) (crosses_for w n) refl refl refl
      ∙ ap (flat_map (crosses_for w)) (sym (range_more 0 n n (omega arith)))
      ∙ ap (seat_crosses_before w) (sym more)

  -- and so along the lists of all seats
  pub seat_crosses_are_written : (crosses : List (List (Option ℕ))) → AreCrossPlaces w.reviewers w.proposers crosses → map places_in crosses ≡ seat_crosses_before w (length w.reviewers)
  seat_crosses_are_written crosses are =
      let places = length-map crosses places_in in
      sym (take_all (length w.reviewers) (map places_in crosses) (omega (arith, places, are.one_each)))
      ∙ first_crosses crosses are (length w.reviewers) (omega arith)

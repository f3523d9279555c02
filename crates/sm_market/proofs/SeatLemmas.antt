-- Seating the proposers at their places, one after another.
use Rattle.std.proofs.Common.{◌≡◌, ◌≢◌, ℕ, ◌+◌, ◌<◌, ◌≤◌, ◌⊎◌, true, false, List, Option, Some, None, length, set, refl, sym, ap, subst, ◌∙◌, arith, ⊎_elim, inl, inr}
use Rattle.std.proofs.lemmas.Bool.{cases_lt, cases_eq, false_from_ne_true}
use Rattle.std.proofs.lemmas.List.{get_or_past, get_or-set_same, get_or-set_other, length-set}
use Rattle.std.specs.Option.{option_map, is_some}
use Rattle.sm_market.specs.Lists.{Lists, row, entry, place_of, IsMarket}
use Rattle.sm_market.specs.Matching.{held}
use Rattle.sm_market.specs.Pairing.{IsPairingOf}
use Rattle.sm_market.specs.PairingFaults.{IsPastList, IsTaken}
use Rattle.sm_lists.proofs.PlaceLemmas.{entry-place_of}
use Rattle.sm_market.proofs.PlaceLemmas.{place_of-entry}
use Rattle.sm_lists.proofs.RowLemmas.{row_in_range}

-- two places that an agent holds are one
pub same_place : {o : Option ℕ} {i j : ℕ} → o ≡ Some i → o ≡ Some j → i ≡ j
same_place e f = cc

-- a proposer at a place on its list isn't past it
pub not_past_at : (l : Lists) (places : List (Option ℕ)) (p at : ℕ) → held places p ≡ Some at → at < length (row l.proposers p) → ¬ IsPastList l places p
not_past_at l places p at is lt h = let same = same_place is h.holds in let past = h.past in omega arith

-- nor is one that holds no place
pub not_past_none : (l : Lists) (places : List (Option ℕ)) (p : ℕ) → held places p ≡ None → ¬ IsPastList l places p
not_past_none l places p is h = let some = h.holds in cc

-- none is past its list, where none of the proposers is
pub not_past_all : (l : Lists) (places : List (Option ℕ)) (n : ℕ) → length places ≤ n → ((q : ℕ) → q < n → ¬ IsPastList l places q) → (q : ℕ) → ¬ IsPastList l places q
not_past_all l places n long none q =
    ⊎_elim (λ lt. none q lt) (λ ge. not_past_none l places q (get_or_past places q None (omega arith))) (cases_lt q n)

-- a place that isn't past its list is on it
pub on_list_at : (l : Lists) (places : List (Option ℕ)) (q i : ℕ) → ¬ IsPastList l places q → held places q ≡ Some i → i < length (row l.proposers q)
on_list_at l places q i none h = ⊎_elim (λ lt. lt) (λ ge. absurd (none (record { at = i; holds = h; past = ge }))) (cases_lt i (length (row l.proposers q)))

-- an item that may be missing
pub option_cases : (o : Option ℕ) → (o ≡ None) ⊎ ((q : ℕ) × (o ≡ Some q))
option_cases None = inl refl
option_cases (Some q) = inr (q, refl)

-- what a test of it says
pub some_of : (o : Option ℕ) → is_some o ≡ true → (q : ℕ) × (o ≡ Some q)
some_of None e = cc
some_of (Some q) e = (q, refl)

-- an option without an item is None
pub none_of : (o : Option ℕ) → is_some o ≡ false → o ≡ None
none_of None e = refl
none_of (Some q) e = cc

-- r has proposer q, who is below p and holds the place of r, and r the place of q
pub record IsSeatedAt (l : Lists) (places reviewers : List (Option ℕ)) (p r q : ℕ) : Type 0 where
  pub lower : q < p
  pub at : ℕ
  pub holds : held places q ≡ Some at
  pub there : entry l.proposers q at ≡ r
  pub place : held reviewers r ≡ Some (place_of l.reviewers r q)

-- the proposers below p are seated: each has the reviewer at its place, and no reviewer has anyone else
pub record IsSeated (l : Lists) (places : List (Option ℕ)) (p : ℕ) (reviewers holders : List (Option ℕ)) : Type 0 where
  pub places_each : length reviewers ≡ length l.reviewers
  pub holders_each : length holders ≡ length l.reviewers
  pub held_by : (r q : ℕ) → held holders r ≡ Some q → IsSeatedAt l places reviewers p r q
  pub unheld : (r : ℕ) → held holders r ≡ None → held reviewers r ≡ None
  pub seated : (q i : ℕ) → q < p → held places q ≡ Some i → held holders (entry l.proposers q i) ≡ Some q
  pub untaken : (q : ℕ) → q < p → ¬ IsTaken l places q

module _ {l : Lists} {places reviewers holders : List (Option ℕ)} {p : ℕ} (s : IsSeated l places p reviewers holders) where
  later : (r q : ℕ) → IsSeatedAt l places reviewers p r q → IsSeatedAt l places reviewers (p + 1) r q
  later r q h = record { lower = let lt = h.lower in omega arith; at = h.at; holds = h.holds; there = h.there; place = h.place }

  -- a proposer that is to be unmatched
  pub seat_none : held places p ≡ None → IsSeated l places (p + 1) reviewers holders
  seat_none is =
      record {
        places_each = s.places_each;
        holders_each = s.holders_each;
        held_by = λ r q h. later r q (s.held_by r q h);
        unheld = s.unheld;
        seated = λ q i lt h. ⊎_elim (λ lower. s.seated q i lower h) (λ ge. let same : q ≡ p = omega arith in let h' = ap (held places) same in cc) (cases_lt q p);
        untaken = λ q lt t. ⊎_elim (λ lower. s.untaken q lower t) (λ ge. let same : q ≡ p = omega arith in let h' = ap (held places) same in let t' = t.holds in cc) (cases_lt q p);
      }

  -- a proposer whose reviewer is free
  pub seat_one : (at r cross : ℕ) → held places p ≡ Some at → r ≡ entry l.proposers p at → r < length l.reviewers → is_some (held holders r) ≡ false → cross ≡ place_of l.reviewers (entry l.proposers p at) p
      → IsSeated l places (p + 1) (set reviewers r (Some cross)) (set holders r (Some p))
  seat_one at r cross is there in_range unheld crossed =
      let free : held holders r ≡ None = none_of (held holders r) unheld in
      let rt : r < length reviewers = let e = s.places_each in omega arith in
      let ht : r < length holders = let e = s.holders_each in omega arith in
      let new_place : held (set reviewers r (Some cross)) r ≡ Some (place_of l.reviewers r p) = get_or-set_same reviewers r (Some cross) None rt ∙ ap Some (crossed ∙ ap (λ b. place_of l.reviewers b p) (sym there)) in
      let new_holder : held (set holders r (Some p)) r ≡ Some p = get_or-set_same holders r (Some p) None ht in
      let old_place : (b : ℕ) → b ≢ r → held (set reviewers r (Some cross)) b ≡ held reviewers b = λ b ne. get_or-set_other reviewers r b (Some cross) None ne in
      let old_holder : (b : ℕ) → b ≢ r → held (set holders r (Some p)) b ≡ held holders b = λ b ne. get_or-set_other holders r b (Some p) None ne in
      record {
        places_each = length-set reviewers r (Some cross) ∙ s.places_each;
        holders_each = length-set holders r (Some p) ∙ s.holders_each;
        held_by = λ b q h. ⊎_elim
            (λ same. let Q : ℕ → Type 0 = λ c. held (set holders r (Some p)) c ≡ Some q → IsSeatedAt l places (set reviewers r (Some cross)) (p + 1) c q in
            subst Q (sym same) (λ g. let who : p ≡ q = same_place new_holder g in
            subst (λ x. IsSeatedAt l places (set reviewers r (Some cross)) (p + 1) r x) who
            (record { lower = omega arith; at = at; holds = is; there = sym there; place = new_place })) h)
            (λ ne. let w = s.held_by b q (sym (old_holder b ne) ∙ h) in
            record { lower = let lt = w.lower in omega arith; at = w.at; holds = w.holds; there = w.there; place = old_place b ne ∙ w.place })
            (cases_eq b r);
        unheld = λ b h. ⊎_elim
            (λ same. let e = ap (held (set holders r (Some p))) same in cc)
            (λ ne. old_place b ne ∙ s.unheld b (sym (old_holder b ne) ∙ h))
            (cases_eq b r);
        seated = λ q i lt h. ⊎_elim
            (λ lower. let old = s.seated q i lower h in
            old_holder (entry l.proposers q i) (λ same. let e = ap (held holders) same in cc) ∙ old)
            (λ ge. let same : q ≡ p = omega arith in
            let i_is : at ≡ i = same_place is (sym (ap (held places) same) ∙ h) in
            let where_is : entry l.proposers q i ≡ r = ap (λ x. entry l.proposers x i) same ∙ ap (λ x. entry l.proposers p x) (sym i_is) ∙ sym there in
            ap (held (set holders r (Some p))) where_is ∙ new_holder ∙ ap Some (sym same))
            (cases_lt q p);
        untaken = λ q lt t. ⊎_elim
            (λ lower. s.untaken q lower t)
            (λ ge. let same : q ≡ p = omega arith in
            let at_is : at ≡ t.at = same_place is (sym (ap (held places) same) ∙ t.holds) in
            let old = s.seated t.earlier t.there (let b = t.before in omega arith) t.earlier_holds in
            let where_is : entry l.proposers t.earlier t.there ≡ r = t.same ∙ ap (λ x. entry l.proposers x t.at) same ∙ ap (λ x. entry l.proposers p x) (sym at_is) ∙ sym there in
            let e = ap (held holders) where_is in cc)
            (cases_lt q p);
      }

  -- a proposer whose reviewer an earlier one has
  pub seat_taken : (at r : ℕ) → held places p ≡ Some at → r ≡ entry l.proposers p at → is_some (held holders r) ≡ true → IsTaken l places p
  seat_taken at r is there taken =
      let x = some_of (held holders r) taken in
      let w = s.held_by r x.0 x.1 in
      record { at = at; holds = is; earlier = x.0; before = w.lower; there = w.at; earlier_holds = w.holds; same = w.there ∙ there }

  -- and one whose reviewer no earlier one has finds it free
  pub seat_free : (at r : ℕ) → held places p ≡ Some at → r ≡ entry l.proposers p at → ¬ IsTaken l places p → is_some (held holders r) ≡ false
  seat_free at r is there untaken = false_from_ne_true _ (λ taken. untaken (seat_taken at r is there taken))

-- all proposers are seated
pub seat_end : {l : Lists} {places reviewers holders : List (Option ℕ)} {p : ℕ} → IsSeated l places p reviewers holders → p ≡ length l.proposers → IsMarket l → length places ≡ length l.proposers → ((q : ℕ) → ¬ IsPastList l places q)
    → IsPairingOf l (record { places = record { proposers = places; reviewers = reviewers }; holders = holders })
seat_end {l} {places} {reviewers} {holders} {p} s is market one_each on_lists =
    let on_list : (q i : ℕ) → held places q ≡ Some i → i < length (row l.proposers q) =
    λ q i h. on_list_at l places q i (on_lists q) h in
    let lower : (q i : ℕ) → held places q ≡ Some i → q < p =
    λ q i h. let lt = row_in_range l.proposers q i (on_list q i h) in omega arith in
    let returned : (r q : ℕ) → (w : IsSeatedAt l places reviewers p r q) → place_of l.reviewers r q < length (row l.reviewers r) =
    λ r q w. let Q : ℕ → Type 0 = λ b. place_of l.reviewers b q < length (row l.reviewers b) in
    subst Q w.there (market.proposers.returned q w.at (on_list q w.at w.holds)) in
    let has : (r k : ℕ) → held reviewers r ≡ Some k → (q : ℕ) × (held holders r ≡ Some q) =
    λ r k h. ⊎_elim (λ none. let n = s.unheld r none in cc) (λ x. x) (option_cases (held holders r)) in
    record {
      matching = record {
        proposers = record {
          one_each = one_each;
          on_list = on_list;
          in_turn = λ q i h. (s.held_by (entry l.proposers q i) q (s.seated q i (lower q i h) h)).place;
        };
        reviewers = record {
          one_each = s.places_each;
          on_list = λ r k h.
              let x = has r k h in
              let w = s.held_by r x.0 x.1 in
              let k_is = same_place w.place h in
              subst (λ j. j < length (row l.reviewers r)) k_is (returned r x.0 w);
          in_turn = λ r k h.
              let x = has r k h in
              let w = s.held_by r x.0 x.1 in
              let k_is = same_place w.place h in
              let q_is : entry l.reviewers r k ≡ x.0 = ap (λ j. entry l.reviewers r j) (sym k_is) ∙ entry-place_of l.reviewers r x.0 (returned r x.0 w) in
              let at_is : place_of l.proposers x.0 r ≡ w.at = ap (λ b. place_of l.proposers x.0 b) (sym w.there) ∙ place_of-entry market.proposers x.0 w.at (on_list x.0 w.at w.holds) in
              ap (held places) q_is ∙ w.holds ∙ ap Some (sym at_is ∙ ap (λ q. place_of l.proposers q r) (sym q_is));
        };
      };
      one_each = s.holders_each;
      names = λ r. ⊎_elim
          (λ none. none ∙ ap (option_map (λ j. entry l.reviewers r j)) (sym (s.unheld r none)))
          (λ x. let w = s.held_by r x.0 x.1 in
          x.1 ∙ ap Some (sym (entry-place_of l.reviewers r x.0 (returned r x.0 w))) ∙ ap (option_map (λ j. entry l.reviewers r j)) (sym w.place))
          (option_cases (held holders r));
    }

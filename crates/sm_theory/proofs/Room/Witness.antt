-- Tests that compute, and what passing them means, for roommates that are written out; and the persons of
-- specs/WitnessesRooms.antt.
use Rattle.std.proofs.Common.{◌≡◌, ◌≢◌, ℕ, zero, suc, ◌<◌, ◌⊎◌, ◌&&◌, ◌||◌, inl, inr, arith, refl, sym, ap, ◌∙◌, Bool, true, not, eqb, nat_lt, List, length, Option, None, Some, eqb-true, eq-eqb, ne_eqb, ltb-true, lt-ltb}
use Rattle.std.proofs.lemmas.List.{get_or_past}
use Rattle.std.proofs.lemmas.Option.{none-some, same_Some}
use Rattle.std.proofs.lemmas.Bool.{and_from, not_from_false}
use Rattle.sm_market.specs.Lists.{row, entry, place_of}
use Rattle.sm_lists.proofs.Counting.{lt_or_le}
use Rattle.sm_theory.specs.Rooms.{AreRoomLists, IsAcceptable, mate_of, place_of_mate, IsRoomStable}
use Rattle.sm_theory.specs.Partitions.{successor_in, predecessor_in, after, party_place, IsStablePartition, IsLowestOfOdd}
use Rattle.sm_theory.specs.WitnessesRooms.{odd_party_rows, odd_party_next, odd_party_rest, OddParty, even_party_rows, even_party_next, even_party_mates, EvenParty}
use Rattle.sm_theory.proofs.Net.Tests.{and_parts, or_parts}
use Rattle.sm_theory.proofs.Tests.Pairs.{all_below, passes, not_true, is_at, is_at_pass}
use Rattle.sm_lists.proofs.RowLemmas.{row_in_range}

-- lists
abbrev rows_test : List (List ℕ) → Bool
rows_test rows = all_below (length rows) (λ x. all_below (length (row rows x)) (λ j. nat_lt (entry rows x j) (length rows) && all_below j (λ i. not (eqb (entry rows x i) (entry rows x j)))))

rows_pass : (rows : List (List ℕ)) → rows_test rows ≡ true → AreRoomLists rows
rows_pass rows e = record {
  in_range = λ x i h. ltb-true _ _ (test x i h).0;
  distinct = λ x i j h g y. not_true _ (passes j (λ i. not (eqb (entry rows x i) (entry rows x j))) (test x j g).1 i h) (eq-eqb _ _ y);
}
  where
    test : (x j : ℕ) → j < length (row rows x) → (nat_lt (entry rows x j) (length rows) ≡ true) × (all_below j (λ i. not (eqb (entry rows x i) (entry rows x j))) ≡ true)
    test x j h = and_parts _ _ (passes (length (row rows x)) (λ j. nat_lt (entry rows x j) (length rows) && all_below j (λ i. not (eqb (entry rows x i) (entry rows x j))))
        (passes (length rows) (λ x. all_below (length (row rows x)) (λ j. nat_lt (entry rows x j) (length rows) && all_below j (λ i. not (eqb (entry rows x i) (entry rows x j))))) e x (row_in_range rows x j h)) j h)

-- acceptable pairs
abbrev acceptable_test : List (List ℕ) → ℕ → ℕ → Bool
acceptable_test rows x y = not (eqb x y) && (nat_lt (place_of rows x y) (length (row rows x)) && nat_lt (place_of rows y x) (length (row rows y)))

acceptable_pass : (rows : List (List ℕ)) (x y : ℕ) → acceptable_test rows x y ≡ true → IsAcceptable rows x y
acceptable_pass rows x y e =
    let parts = and_parts (not (eqb x y)) (nat_lt (place_of rows x y) (length (row rows x)) && nat_lt (place_of rows y x) (length (row rows y))) e in
    let more = and_parts (nat_lt (place_of rows x y) (length (row rows x))) (nat_lt (place_of rows y x) (length (row rows y))) parts.1 in
    record { apart = λ a. not_true _ parts.0 (eq-eqb _ _ a); listed = ltb-true _ _ more.0; returned = ltb-true _ _ more.1 }

-- no two persons pass both tests
abbrev unblocked_test : List (List ℕ) → (ℕ → ℕ) → Bool
unblocked_test rows stands = all_below (length rows) (λ x. all_below (length rows) (λ y. not (not (eqb x y) && (nat_lt (place_of rows x y) (stands x) && nat_lt (place_of rows y x) (stands y)))))

unblocked_pass : (rows : List (List ℕ)) (stands : ℕ → ℕ) → unblocked_test rows stands ≡ true → (x y : ℕ) → IsAcceptable rows x y → place_of rows x y < stands x → place_of rows y x < stands y → ⊥
unblocked_pass rows stands e x y h a b =
    not_true (not (eqb x y) && (nat_lt (place_of rows x y) (stands x) && nat_lt (place_of rows y x) (stands y)))
    (passes (length rows) (λ y. not (not (eqb x y) && (nat_lt (place_of rows x y) (stands x) && nat_lt (place_of rows y x) (stands y))))
    (passes (length rows) (λ x. all_below (length rows) (λ y. not (not (eqb x y) && (nat_lt (place_of rows x y) (stands x) && nat_lt (place_of rows y x) (stands y))))) e x (row_in_range rows x _ h.listed))
    y (row_in_range rows y _ h.returned))
    (and_from _ _ (not_from_false _ (ne_eqb x y h.apart)) (and_from _ _ (lt-ltb _ _ a) (lt-ltb _ _ b)))

-- partitions
abbrev person_test : List (List ℕ) → List ℕ → ℕ → Bool
person_test rows next x = nat_lt (successor_in next x) (length rows)
    && ((eqb (successor_in next x) x || acceptable_test rows x (successor_in next x))
    && (eqb (successor_in next x) (predecessor_in next x) || nat_lt (place_of rows x (successor_in next x)) (place_of rows x (predecessor_in next x))))

abbrev apart_test : List (List ℕ) → List ℕ → Bool
apart_test rows next = all_below (length rows) (λ y. all_below y (λ x. not (eqb (successor_in next x) (successor_in next y))))

abbrev persons_test : List (List ℕ) → List ℕ → Bool
persons_test rows next = all_below (length rows) (person_test rows next)

partition_pass : (rows : List (List ℕ)) (next : List ℕ) → length next ≡ length rows → apart_test rows next ≡ true → persons_test rows next ≡ true → unblocked_test rows (party_place rows next) ≡ true → IsStablePartition rows next
partition_pass rows next one apart each unblocked = record {
  one_each = one;
  in_range = λ x h. ltb-true _ _ (parts x h).0;
  distinct = λ x y h g e. not_true _ (passes y (λ x. not (eqb (successor_in next x) (successor_in next y))) (passes (length rows) (λ y. all_below y (λ x. not (eqb (successor_in next x) (successor_in next y)))) apart y g) x h) (eq-eqb _ _ e);
  acceptable = λ x h ne. elim (or_parts (eqb (successor_in next x) x) (acceptable_test rows x (successor_in next x)) (more x h).0) [
    | inl e ↦ absurd (ne (eqb-true _ _ e))
    | inr e ↦ acceptable_pass rows x (successor_in next x) e
  ];
  prefers = λ x h ne. elim (or_parts (eqb (successor_in next x) (predecessor_in next x)) (nat_lt (place_of rows x (successor_in next x)) (place_of rows x (predecessor_in next x))) (more x h).1) [
    | inl e ↦ absurd (ne (eqb-true _ _ e))
    | inr e ↦ ltb-true _ _ e
  ];
  unblocked = λ x y h a b. unblocked_pass rows (party_place rows next) unblocked x y h a b;
}
  where
    parts : (x : ℕ) → x < length rows → (nat_lt (successor_in next x) (length rows) ≡ true) × (((eqb (successor_in next x) x || acceptable_test rows x (successor_in next x))
        && (eqb (successor_in next x) (predecessor_in next x) || nat_lt (place_of rows x (successor_in next x)) (place_of rows x (predecessor_in next x)))) ≡ true)
    parts x h = and_parts _ _ (passes (length rows) (person_test rows next) each x h)

    more : (x : ℕ) → x < length rows → ((eqb (successor_in next x) x || acceptable_test rows x (successor_in next x)) ≡ true) × ((eqb (successor_in next x) (predecessor_in next x) || nat_lt (place_of rows x (successor_in next x)) (place_of rows x (predecessor_in next x))) ≡ true)
    more x h = and_parts _ _ (parts x h).1

-- matchings
abbrev mate_test : List (List ℕ) → List (Option ℕ) → ℕ → Option ℕ → Bool
mate_test rows mates x None = true
mate_test rows mates x (Some y) = acceptable_test rows x y && is_at (mate_of mates y) x

abbrev mates_test : List (List ℕ) → List (Option ℕ) → Bool
mates_test rows mates = all_below (length rows) (λ x. mate_test rows mates x (mate_of mates x))

mates_pass : (rows : List (List ℕ)) (mates : List (Option ℕ)) → length mates ≡ length rows → mates_test rows mates ≡ true → unblocked_test rows (λ x. place_of_mate rows x (mate_of mates x)) ≡ true → IsRoomStable rows mates
mates_pass rows mates one each unblocked = record {
  matching = record {
    one_each = one;
    acceptable = λ x y e. acceptable_pass rows x y (test x y e).0;
    in_turn = λ x y e. is_at_pass _ _ (test x y e).1;
  };
  unblocked = λ x y b. unblocked_pass rows (λ x. place_of_mate rows x (mate_of mates x)) unblocked x y b.acceptable b.first_gains b.second_gains;
}
  where
    test : (x y : ℕ) → mate_of mates x ≡ Some y → (acceptable_test rows x y ≡ true) × (is_at (mate_of mates y) x ≡ true)
    test x y e = and_parts _ _ (ap (mate_test rows mates x) (sym e) ∙ passes (length rows) (λ x. mate_test rows mates x (mate_of mates x)) each x inside)
      where
        inside : x < length rows
        inside = elim (lt_or_le x (length rows)) [ inl k ↦ k | inr k ↦ absurd (none-some _ (sym (get_or_past mates x None (omega (arith, one))) ∙ e)) ]

-- what is said of the persons with the party of four holds
pub even_party_is : EvenParty
even_party_is = (
  rows_pass even_party_rows refl,
  partition_pass even_party_rows even_party_next refl refl refl refl,
  mates_pass even_party_rows even_party_mates refl refl refl,
)

-- the odd party
odd_partition : IsStablePartition odd_party_rows odd_party_next
odd_partition = partition_pass odd_party_rows odd_party_next refl refl refl refl

lowest : IsLowestOfOdd odd_party_rows odd_party_next 0
lowest = record { odd = record { in_range = omega arith; half = 1; three = omega arith; returns = refl; first = first }; lowest = λ k. omega arith }
  where
    first : (k : ℕ) → 0 < k → k < 3 → after odd_party_next 0 k ≡ 0 → ⊥
    first zero a b e = omega arith
    first (suc zero) a b e = omega (arith, e)
    first (suc (suc zero)) a b e = omega (arith, e)
    first (suc (suc (suc k))) a b e = omega arith

-- nobody but 0 is the lowest of an odd party
others_not : (x : ℕ) → IsLowestOfOdd odd_party_rows odd_party_next x → mate_of odd_party_rest x ≡ None
others_not zero w = refl
others_not (suc zero) w = absurd (omega (arith, w.lowest 2))
others_not (suc (suc zero)) w = absurd (omega (arith, w.lowest 1))
others_not (suc (suc (suc zero))) w = refl
others_not (suc (suc (suc (suc zero)))) w = refl
others_not (suc (suc (suc (suc (suc x))))) w = refl

-- what is said of the persons with the odd party holds
pub odd_party_is : OddParty
odd_party_is = (
  rows_pass odd_party_rows refl,
  odd_partition,
  lowest,
  record { one_each = refl; neighbours = neighbours; in_turn = in_turn; left_out = others_not; others = others },
)
  where
    neighbours : (x y : ℕ) → mate_of odd_party_rest x ≡ Some y → (y ≢ x) × ((y ≡ successor_in odd_party_next x) ⊎ (y ≡ predecessor_in odd_party_next x))
    neighbours zero y e = absurd (none-some _ e)
    neighbours (suc zero) y e = let f : 2 ≡ y = same_Some _ _ e in ((λ g. omega arith), inl (sym f))
    neighbours (suc (suc zero)) y e = let f : 1 ≡ y = same_Some _ _ e in ((λ g. omega arith), inr (sym f))
    neighbours (suc (suc (suc zero))) y e = absurd (none-some _ e)
    neighbours (suc (suc (suc (suc zero)))) y e = absurd (none-some _ e)
    neighbours (suc (suc (suc (suc (suc x))))) y e = absurd (none-some _ e)

    in_turn : (x y : ℕ) → mate_of odd_party_rest x ≡ Some y → mate_of odd_party_rest y ≡ Some x
    in_turn zero y e = absurd (none-some _ e)
    in_turn (suc zero) y e = let f : 2 ≡ y = same_Some _ _ e in ap (mate_of odd_party_rest) (sym f)
    in_turn (suc (suc zero)) y e = let f : 1 ≡ y = same_Some _ _ e in ap (mate_of odd_party_rest) (sym f)
    in_turn (suc (suc (suc zero))) y e = absurd (none-some _ e)
    in_turn (suc (suc (suc (suc zero)))) y e = absurd (none-some _ e)
    in_turn (suc (suc (suc (suc (suc x))))) y e = absurd (none-some _ e)

    others : (x : ℕ) → x < 5 → mate_of odd_party_rest x ≡ None → (successor_in odd_party_next x ≡ x) ⊎ IsLowestOfOdd odd_party_rows odd_party_next x
    others zero h e = inr lowest
    others (suc zero) h e = absurd (none-some _ (sym e))
    others (suc (suc zero)) h e = absurd (none-some _ (sym e))
    others (suc (suc (suc zero))) h e = inl refl
    others (suc (suc (suc (suc zero)))) h e = inl refl
    others (suc (suc (suc (suc (suc x))))) h e = absurd (omega arith)

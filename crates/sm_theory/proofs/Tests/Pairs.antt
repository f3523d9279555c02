-- Tests that compute, and what passing them means: for markets, matchings and rotations that are written out.
use Rattle.std.proofs.Common.{◌≡◌, ℕ, zero, suc, ◌+◌, ◌<◌, ◌≤◌, ◌&&◌, ◌||◌, inl, inr, arith, refl, sym, ap, ◌∙◌, Bool, true, false, not, eqb, nat_lt, List, length, slice_index, Option, None, Some, is_some, eqb-true, eq-eqb, ltb-true, lt-ltb}
use Rattle.std.proofs.lemmas.List.{get_or_past}
use Rattle.std.proofs.lemmas.Option.{none-some}
use Rattle.std.proofs.lemmas.Bool.{and_from}
use Rattle.sm_market.specs.Lists.{Lists, row, entry, place_of, AreMutual, IsMarket}
use Rattle.sm_market.specs.Matching.{Places, held, standing, AreHeldInTurn, IsMatching}
use Rattle.sm_market.specs.Stable.{IsStable, IsProposersBest}
use Rattle.sm_lists.proofs.Counting.{lt_or_le, eq_or_ne}
use Rattle.sm_lists.proofs.BoolLemmas.{first_true, second_true}
use Rattle.sm_market.proofs.Bridge.{held_cases, standing-none}
use Rattle.sm_market.proofs.LawsProved.{same_agents}
use Rattle.sm_theory.specs.Rotations.{IsSuccessor, IsExposed, proposer_at, reviewer_at, target_at}
use Rattle.sm_theory.specs.Vectors.{AreLevels}
use Rattle.sm_theory.proofs.Bridge.Places.{row_past}
use Rattle.sm_theory.proofs.Net.Tests.{or_parts}

-- all numbers below n pass
abbrev pub all_below : ℕ → (ℕ → Bool) → Bool
all_below zero f = true
all_below (suc n) f = all_below n f && f n

-- where all below n pass, each passes
pub passes : (n : ℕ) (f : ℕ → Bool) → all_below n f ≡ true → (i : ℕ) → i < n → f i ≡ true
passes zero f e i h = absurd (omega arith)
passes (suc n) f e i h = elim (eq_or_ne i n) [
  | inl x ↦ ap f x ∙ second_true (all_below n f) (f n) e
  | inr x ↦ passes n f (first_true (all_below n f) (f n) e) i (omega arith)
]

-- where a test's opposite passes, it doesn't
pub not_true : (b : Bool) → not b ≡ true → b ≡ true → ⊥
not_true true e x = grind arith
not_true false e x = grind arith

-- lists
abbrev entry_test : List (List ℕ) → List (List ℕ) → ℕ → ℕ → Bool
entry_test rows others a i = nat_lt (entry rows a i) (length others)
    && (nat_lt (place_of others (entry rows a i) a) (length (row others (entry rows a i))) && all_below i (λ j. not (eqb (entry rows a j) (entry rows a i))))

-- the test that one side's lists are in range, without repeats and returned
abbrev pub lists_test : List (List ℕ) → List (List ℕ) → Bool
lists_test rows others = all_below (length rows) (λ a. all_below (length (row rows a)) (entry_test rows others a))

lists_pass : (rows others : List (List ℕ)) → lists_test rows others ≡ true → AreMutual rows others
lists_pass rows others e = record {
  in_range = λ a i h. ltb-true _ _ (first_true _ _ (test a i h));
  distinct = λ a i j h g x. not_true _ (passes j (λ k. not (eqb (entry rows a k) (entry rows a j))) (second_true _ _ (second_true _ _ (test a j g))) i h) (eq-eqb _ _ x);
  returned = λ a i h. ltb-true _ _ (first_true _ _ (second_true _ _ (test a i h)));
}
  where
    test : (a i : ℕ) → i < length (row rows a) → entry_test rows others a i ≡ true
    test a i h = elim (lt_or_le a (length rows)) [
      | inl k ↦ passes (length (row rows a)) (entry_test rows others a) (passes (length rows) (λ a. all_below (length (row rows a)) (entry_test rows others a)) e a k) i h
      | inr k ↦ absurd (omega (arith, row_past rows a k))
    ]

-- lists of which and_from sides pass are a market
pub market_pass : (l : Lists) → (lists_test l.proposers l.reviewers && lists_test l.reviewers l.proposers) ≡ true → IsMarket l
market_pass l e = record { proposers = lists_pass l.proposers l.reviewers (first_true _ _ e); reviewers = lists_pass l.reviewers l.proposers (second_true _ _ e) }

-- matchings
abbrev pub is_at : Option ℕ → ℕ → Bool
is_at None i = false
is_at (Some k) i = eqb k i

-- where it passes, the place is i
pub is_at_pass : (o : Option ℕ) (i : ℕ) → is_at o i ≡ true → o ≡ Some i
is_at_pass None i e = grind arith
is_at_pass (Some k) i e = ap Some (eqb-true k i e)

abbrev place_test : List (List ℕ) → List (List ℕ) → List (Option ℕ) → ℕ → Option ℕ → Bool
place_test rows others theirs a None = true
place_test rows others theirs a (Some i) = nat_lt i (length (row rows a)) && is_at (held theirs (entry rows a i)) (place_of others (entry rows a i) a)

-- the test that one side's places are held in turn
abbrev pub places_test : List (List ℕ) → List (List ℕ) → List (Option ℕ) → List (Option ℕ) → Bool
places_test rows others places theirs = eqb (length places) (length rows) && all_below (length rows) (λ a. place_test rows others theirs a (held places a))

places_pass : (rows others : List (List ℕ)) (places theirs : List (Option ℕ)) → places_test rows others places theirs ≡ true → AreHeldInTurn rows others places theirs
places_pass rows others places theirs e = record {
  one_each = one;
  on_list = λ a i x. ltb-true _ _ (first_true _ _ (test a i x));
  in_turn = λ a i x. is_at_pass _ _ (second_true _ _ (test a i x));
}
  where
    one : length places ≡ length rows
    one = eqb-true _ _ (first_true _ _ e)

    test : (a i : ℕ) → held places a ≡ Some i → place_test rows others theirs a (Some i) ≡ true
    test a i x = elim (lt_or_le a (length rows)) [
      | inl k ↦ ap (place_test rows others theirs a) (sym x) ∙ passes (length rows) (λ a. place_test rows others theirs a (held places a)) (second_true _ _ e) a k
      | inr k ↦ absurd (none-some _ (sym (get_or_past places a None (omega (arith, one))) ∙ x))
    ]

-- places of which and_from sides pass are a matching
pub matching_pass : (l : Lists) (m : Places) → (places_test l.proposers l.reviewers m.proposers m.reviewers && places_test l.reviewers l.proposers m.reviewers m.proposers) ≡ true → IsMatching l m
matching_pass l m e = record { proposers = places_pass _ _ _ _ (first_true _ _ e); reviewers = places_pass _ _ _ _ (second_true _ _ e) }

-- a matching in which each proposer has the first on its list is the proposers' best
pub firsts_best : (l : Lists) (m : Places) → IsMatching l m → all_below (length l.proposers) (λ p. eqb (standing l.proposers m.proposers p) 0) ≡ true → IsProposersBest l m
firsts_best l m f e = record {
  stable = record { matching = f; unblocked = λ p i b. omega (arith, zero_at p, b.proposer_gains) };
  best = λ n s p. omega (arith, zero_at p);
}
  where
    zero_at : (p : ℕ) → standing l.proposers m.proposers p ≡ 0
    zero_at p = elim (lt_or_le p (length l.proposers)) [
      | inl k ↦ eqb-true _ _ (passes (length l.proposers) (λ p. eqb (standing l.proposers m.proposers p) 0) e p k)
      | inr k ↦ elim (held_cases l.proposers m.proposers p) [
        | inl w ↦ omega (arith, w.standing_is, row_past l.proposers p k)
        | inr w ↦ absurd (omega (arith, f.proposers.on_list p w.place w.held_is, row_past l.proposers p k))
      ]
    ]

-- a stable matching in which each proposer has the first on its list or is unmatched is the proposers' best
pub firsts_or_none_best : (l : Lists) (m : Places) → IsMarket l → IsStable l m → all_below (length l.proposers) (λ p. eqb (standing l.proposers m.proposers p) 0 || not (is_some (held m.proposers p))) ≡ true → IsProposersBest l m
firsts_or_none_best l m h stable e = record { stable = stable; best = λ n s p. at n s p }
  where
    none : (o : Option ℕ) → not (is_some o) ≡ true → o ≡ None
    none None x = refl
    none (Some k) x = grind arith

    at : (n : Places) → IsStable l n → (p : ℕ) → standing l.proposers m.proposers p ≤ standing l.proposers n.proposers p
    at n s p = elim (lt_or_le p (length l.proposers)) [
      | inl k ↦ elim (or_parts (eqb (standing l.proposers m.proposers p) 0) (not (is_some (held m.proposers p))) (passes (length l.proposers) (λ p. eqb (standing l.proposers m.proposers p) 0 || not (is_some (held m.proposers p))) e p k)) [
        | inl x ↦ let zero_is = eqb-true (standing l.proposers m.proposers p) 0 x in omega arith
        | inr x ↦ omega (arith, standing-none l.proposers m.proposers p (none _ x), standing-none l.proposers n.proposers p ((same_agents l m n h stable s).0 p (none _ x)))
      ]
      | inr k ↦ elim (held_cases l.proposers m.proposers p) [
        | inl w ↦ omega (arith, w.standing_is, row_past l.proposers p k)
        | inr w ↦ absurd (omega (arith, stable.matching.proposers.on_list p w.place w.held_is, row_past l.proposers p k))
      ]
    ]

-- rotations
abbrev takes_test : Lists → Places → ℕ → ℕ → Bool
takes_test l m p i = nat_lt (place_of l.reviewers (entry l.proposers p i) p) (standing l.reviewers m.reviewers (entry l.proposers p i))

abbrev successor_test : Lists → Places → ℕ → ℕ → Bool
successor_test l m p i = nat_lt i (length (row l.proposers p)) && (nat_lt (standing l.proposers m.proposers p) i && (takes_test l m p i
    && (all_below i (λ j. not (nat_lt (standing l.proposers m.proposers p) j && takes_test l m p j)) && is_some (held m.reviewers (entry l.proposers p i)))))

three : (a b c : Bool) → (a && (b && c)) ≡ true → (a ≡ true) × (b ≡ true) × (c ≡ true)
three a b c e = let f = second_true a (b && c) e in (first_true a (b && c) e, first_true b c f, second_true b c f)

successor_pass : (l : Lists) (m : Places) (p i : ℕ) → successor_test l m p i ≡ true → IsSuccessor l m p i
successor_pass l m p i e = record {
  on_list = ltb-true _ _ whole.0;
  behind = ltb-true _ _ whole.1;
  takes = ltb-true _ _ rest.0;
  first = λ j a b w. not_true _ (passes i (λ j. not (nat_lt (standing l.proposers m.proposers p) j && takes_test l m p j)) rest.1 j b) (and_from _ _ (lt-ltb _ _ a) (lt-ltb _ _ w));
  matched = rest.2;
}
  where
    whole : (nat_lt i (length (row l.proposers p)) ≡ true) × (nat_lt (standing l.proposers m.proposers p) i ≡ true) × ((takes_test l m p i && (all_below i (λ j. not (nat_lt (standing l.proposers m.proposers p) j && takes_test l m p j)) && is_some (held m.reviewers (entry l.proposers p i)))) ≡ true)
    whole = three (nat_lt i (length (row l.proposers p))) (nat_lt (standing l.proposers m.proposers p) i) (takes_test l m p i && (all_below i (λ j. not (nat_lt (standing l.proposers m.proposers p) j && takes_test l m p j)) && is_some (held m.reviewers (entry l.proposers p i)))) e

    rest : (takes_test l m p i ≡ true) × (all_below i (λ j. not (nat_lt (standing l.proposers m.proposers p) j && takes_test l m p j)) ≡ true) × (is_some (held m.reviewers (entry l.proposers p i)) ≡ true)
    rest = three (takes_test l m p i) (all_below i (λ j. not (nat_lt (standing l.proposers m.proposers p) j && takes_test l m p j))) (is_some (held m.reviewers (entry l.proposers p i))) whole.2

abbrev apart_test : List (ℕ × ℕ) → ℕ → Bool
apart_test rotation j = all_below j (λ i. not (eqb (proposer_at rotation i) (proposer_at rotation j)))

abbrev pair_test : Lists → Places → List (ℕ × ℕ) → ℕ → Bool
pair_test l m rotation i = is_at (held m.proposers (proposer_at rotation i)) (place_of l.proposers (proposer_at rotation i) (reviewer_at rotation i))
    && successor_test l m (proposer_at rotation i) (place_of l.proposers (proposer_at rotation i) (target_at rotation i))

-- the test that a rotation is exposed
abbrev pub exposed_test : Lists → Places → List (ℕ × ℕ) → Bool
exposed_test l m rotation = nat_lt 0 (length rotation) && (all_below (length rotation) (apart_test rotation) && all_below (length rotation) (pair_test l m rotation))

-- a rotation that passes is exposed
pub exposed_pass : (l : Lists) (m : Places) (rotation : List (ℕ × ℕ)) → exposed_test l m rotation ≡ true → IsExposed l m rotation
exposed_pass l m rotation e = record {
  not_empty = ltb-true _ _ whole.0;
  distinct = λ i j a b x. not_true (eqb (proposer_at rotation i) (proposer_at rotation j)) (passes j (λ i. not (eqb (proposer_at rotation i) (proposer_at rotation j))) (passes (length rotation) (apart_test rotation) whole.1 j b) i a) (eq-eqb _ _ x);
  paired = λ i a. is_at_pass _ _ (first_true (is_at (held m.proposers (proposer_at rotation i)) (place_of l.proposers (proposer_at rotation i) (reviewer_at rotation i))) (successor_test l m (proposer_at rotation i) (place_of l.proposers (proposer_at rotation i) (target_at rotation i))) (test i a));
  next = λ i a. successor_pass l m _ _ (second_true (is_at (held m.proposers (proposer_at rotation i)) (place_of l.proposers (proposer_at rotation i) (reviewer_at rotation i))) (successor_test l m (proposer_at rotation i) (place_of l.proposers (proposer_at rotation i) (target_at rotation i))) (test i a));
}
  where
    whole : (nat_lt 0 (length rotation) ≡ true) × (all_below (length rotation) (apart_test rotation) ≡ true) × (all_below (length rotation) (pair_test l m rotation) ≡ true)
    whole = three (nat_lt 0 (length rotation)) (all_below (length rotation) (apart_test rotation)) (all_below (length rotation) (pair_test l m rotation)) e

    test : (i : ℕ) → i < length rotation → pair_test l m rotation i ≡ true
    test = passes (length rotation) (pair_test l m rotation) whole.2

-- a place behind p's partner whose reviewer is matched and would take p
abbrev goes_test : Lists → Places → ℕ → ℕ → Bool
goes_test l m p i = nat_lt (standing l.proposers m.proposers p) i && (takes_test l m p i && is_some (held m.reviewers (entry l.proposers p i)))

-- the test that no proposer has a place to go to
abbrev pub none_test : Lists → Places → Bool
none_test l m = all_below (length l.proposers) (λ p. all_below (length (row l.proposers p)) (λ i. not (goes_test l m p i)))

-- where there is no such place, nothing is exposed
pub none_pass : (l : Lists) (m : Places) → none_test l m ≡ true → (other : List (ℕ × ℕ)) → ¬ IsExposed l m other
none_pass l m e other x = go (x.next 0 x.not_empty)
  where
    p : ℕ
    p = proposer_at other 0

    go : IsSuccessor l m p (place_of l.proposers p (target_at other 0)) → ⊥
    go w = elim (lt_or_le p (length l.proposers)) [
      | inl k ↦ not_true (goes_test l m p (place_of l.proposers p (target_at other 0)))
          (passes (length (row l.proposers p)) (λ i. not (goes_test l m p i)) (passes (length l.proposers) (λ p. all_below (length (row l.proposers p)) (λ i. not (goes_test l m p i))) e p k) (place_of l.proposers p (target_at other 0)) w.on_list)
          (and_from _ _ (lt-ltb _ _ w.behind) (and_from _ _ (lt-ltb _ _ w.takes) w.matched))
      | inr k ↦ omega (arith, w.on_list, row_past l.proposers p k)
    ]

-- levels
abbrev rising_test : List ℕ → Bool
rising_test levels = all_below (length levels) (λ j. all_below j (λ i. not (nat_lt (slice_index levels j) (slice_index levels i))))

-- the test that levels are given for all places, rising
abbrev pub levels_test : Lists → List (List ℕ) → Bool
levels_test l levels = eqb (length levels) (length l.proposers)
    && (all_below (length l.proposers) (λ p. eqb (length (row levels p)) (length (row l.proposers p) + 1)) && all_below (length levels) (λ p. rising_test (row levels p)))

not_less : (a b : ℕ) → not (nat_lt a b) ≡ true → b ≤ a
not_less a b e = elim (lt_or_le a b) [ inl h ↦ absurd (not_true _ e (lt-ltb _ _ h)) | inr h ↦ h ]

-- levels that pass are levels of the market
pub levels_pass : (l : Lists) (levels : List (List ℕ)) → levels_test l levels ≡ true → AreLevels l levels
levels_pass l levels e = record {
  one_each = eqb-true _ _ whole.0;
  per_place = λ p h. eqb-true _ _ (passes (length l.proposers) (λ p. eqb (length (row levels p)) (length (row l.proposers p) + 1)) whole.1 p h);
  rising = λ p i j h g. elim (lt_or_le p (length levels)) [
    | inl k ↦ not_less _ _ (passes j (λ i. not (nat_lt (slice_index (row levels p) j) (slice_index (row levels p) i)))
        (passes (length (row levels p)) (λ j. all_below j (λ i. not (nat_lt (slice_index (row levels p) j) (slice_index (row levels p) i)))) (passes (length levels) (λ p. rising_test (row levels p)) whole.2 p k) j g) i h)
    | inr k ↦ absurd (omega (arith, g, row_past levels p k))
  ];
}
  where
    whole : (eqb (length levels) (length l.proposers) ≡ true) × (all_below (length l.proposers) (λ p. eqb (length (row levels p)) (length (row l.proposers p) + 1)) ≡ true) × (all_below (length levels) (λ p. rising_test (row levels p)) ≡ true)
    whole = three (eqb (length levels) (length l.proposers)) (all_below (length l.proposers) (λ p. eqb (length (row levels p)) (length (row l.proposers p) + 1))) (all_below (length levels) (λ p. rising_test (row levels p))) e

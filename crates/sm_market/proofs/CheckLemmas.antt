-- Tests that compute, for markets and matchings that are written out.
use Rattle.std.proofs.Common.{◌≡◌, ℕ, zero, suc, ◌<◌, Bool, true, false, ◌&&◌, eqb, ltb, List, Option, Some, None, length, sym, ap, subst, ◌∙◌, arith, ⊎_elim}
use Rattle.std.proofs.Math.Bool.{not}
use Rattle.std.proofs.lemmas.Bool.{and_parts, ltb-true, eqb-true, eq-eqb, and_from, lt-ltb, not-true, false≢true, cases_lt}
use Rattle.std.proofs.lemmas.List.{get_or_past}
use Rattle.sm_market.specs.Lists.{Lists, row, entry, place_of, AreMutual, IsMarket}
use Rattle.sm_market.specs.Matching.{Places, held, standing, AreHeldInTurn, IsMatching}
use Rattle.sm_market.specs.Stable.{IsStable}
use Rattle.sm_lists.proofs.RowLemmas.{row_in_range}

-- each number below n passes
abbrev pub all_below : ℕ → (ℕ → Bool) → Bool
all_below zero p = true
all_below (suc n) p = all_below n p && p n

-- what passes for all numbers below n passes for each
pub all_below_at : (n : ℕ) (p : ℕ → Bool) → all_below n p ≡ true → (k : ℕ) → k < n → p k ≡ true
all_below_at zero p h k l = absurd (omega arith)
all_below_at (suc n) p h k l =
    let parts = and_parts (all_below n p) (p n) h in
    ⊎_elim (λ lower. all_below_at n p parts.0 k lower) (λ ge. let last : n ≡ k = omega arith in ap p (sym last) ∙ parts.1) (cases_lt k n)

-- each entry of one side passes
abbrev pub all_entries : List (List ℕ) → (ℕ → ℕ → Bool) → Bool
all_entries rows p = all_below (length rows) (λ a. all_below (length (row rows a)) (p a))

-- what passes for all entries passes for each
pub all_entries_at : (rows : List (List ℕ)) (p : ℕ → ℕ → Bool) → all_entries rows p ≡ true → (a i : ℕ) → i < length (row rows a) → p a i ≡ true
all_entries_at rows p h a i l =
    all_below_at (length (row rows a)) (p a) (all_below_at (length rows) (λ a. all_below (length (row rows a)) (p a)) h a (row_in_range rows a i l)) i l

-- the test that one side's lists are in range, without repeats and returned
abbrev pub are_mutual : List (List ℕ) → List (List ℕ) → Bool
are_mutual rows others =
    all_entries rows (λ a i. let b = entry rows a i in
    ltb b (length others) && (all_below i (λ j. not (eqb (entry rows a j) b)) && ltb (place_of others b a) (length (row others b))))

-- where the test passes the lists are mutual
pub mutual_from_test : (rows others : List (List ℕ)) → are_mutual rows others ≡ true → AreMutual rows others
mutual_from_test rows others h =
    let at : (a i : ℕ) → i < length (row rows a) → (ltb (entry rows a i) (length others) && (all_below i (λ j. not (eqb (entry rows a j) (entry rows a i))) && ltb (place_of others (entry rows a i) a) (length (row others (entry rows a i))))) ≡ true =
    all_entries_at rows _ h in
    record {
      in_range = λ a i l. ltb-true _ _ (and_parts _ _ (at a i l)).0;
      distinct = λ a i j lt l e.
          let apart = not-true _ (all_below_at j (λ k. not (eqb (entry rows a k) (entry rows a j))) (and_parts _ _ (and_parts _ _ (at a j l)).1).0 i lt) in
          false≢true (sym apart ∙ eq-eqb _ _ e);
      returned = λ a i l. ltb-true _ _ (and_parts _ _ (and_parts _ _ (at a i l)).1).1;
    }

-- lists that are written out make a market
pub market_from_test : (l : Lists) → are_mutual l.proposers l.reviewers ≡ true → are_mutual l.reviewers l.proposers ≡ true → IsMarket l
market_from_test l h g = record { proposers = mutual_from_test l.proposers l.reviewers h; reviewers = mutual_from_test l.reviewers l.proposers g }

-- an item that may be missing is this number
abbrev pub is_number : Option ℕ → ℕ → Bool
is_number None k = false
is_number (Some j) k = eqb j k

number_from_test : (o : Option ℕ) (k : ℕ) → is_number o k ≡ true → o ≡ Some k
number_from_test None k h = absurd (false≢true h)
number_from_test (Some j) k h = ap Some (eqb-true j k h)

-- a place that may be missing is on the list, and held in turn
abbrev pub is_in_turn : List (List ℕ) → List (List ℕ) → List (Option ℕ) → ℕ → Option ℕ → Bool
is_in_turn rows others theirs a None = true
is_in_turn rows others theirs a (Some i) = ltb i (length (row rows a)) && is_number (held theirs (entry rows a i)) (place_of others (entry rows a i) a)

-- the test that each agent that holds a place is held in turn
abbrev pub are_in_turn : List (List ℕ) → List (List ℕ) → List (Option ℕ) → List (Option ℕ) → Bool
are_in_turn rows others places theirs = eqb (length places) (length rows) && all_below (length rows) (λ a. is_in_turn rows others theirs a (held places a))

-- where the test passes each is held in turn
pub in_turn_from_test : (rows others : List (List ℕ)) (places theirs : List (Option ℕ)) → are_in_turn rows others places theirs ≡ true → AreHeldInTurn rows others places theirs
in_turn_from_test rows others places theirs h =
    let each : (eqb (length places) (length rows) ≡ true) × (all_below (length rows) (λ a. is_in_turn rows others theirs a (held places a)) ≡ true) = and_parts _ _ h in
    let long : length places ≡ length rows = eqb-true _ _ each.0 in
    let lower : (a i : ℕ) → held places a ≡ Some i → a < length rows =
    λ a i e. ⊎_elim (λ l. l) (λ ge. let none = get_or_past places a None (omega arith) in cc) (cases_lt a (length rows)) in
    let at : (a i : ℕ) → held places a ≡ Some i → (ltb i (length (row rows a)) && is_number (held theirs (entry rows a i)) (place_of others (entry rows a i) a)) ≡ true =
    λ a i e. let Q : Option ℕ → Type 0 = λ o. is_in_turn rows others theirs a o ≡ true in
    subst Q e (all_below_at (length rows) (λ a. is_in_turn rows others theirs a (held places a)) each.1 a (lower a i e)) in
    record {
      one_each = long;
      on_list = λ a i e. ltb-true _ _ (and_parts _ _ (at a i e)).0;
      in_turn = λ a i e. number_from_test _ _ (and_parts _ _ (at a i e)).1;
    }

-- places that are written out make a matching
pub matching_from_test : (l : Lists) (m : Places) → are_in_turn l.proposers l.reviewers m.proposers m.reviewers ≡ true → are_in_turn l.reviewers l.proposers m.reviewers m.proposers ≡ true → IsMatching l m
matching_from_test l m h g = record { proposers = in_turn_from_test l.proposers l.reviewers m.proposers m.reviewers h; reviewers = in_turn_from_test l.reviewers l.proposers m.reviewers m.proposers g }

-- the test that no pair blocks
abbrev pub is_unblocked : Lists → Places → Bool
is_unblocked l m =
    all_entries l.proposers (λ p i. let r = entry l.proposers p i in
    not (ltb i (standing l.proposers m.proposers p) && ltb (place_of l.reviewers r p) (standing l.reviewers m.reviewers r)))

-- and a stable one
pub stable_from_test : (l : Lists) (m : Places) → IsMatching l m → is_unblocked l m ≡ true → IsStable l m
stable_from_test l m matching h =
    record {
      matching = matching;
      unblocked = λ p i b.
          let no = not-true _ (all_entries_at l.proposers (λ p i. not (ltb i (standing l.proposers m.proposers p) && ltb (place_of l.reviewers (entry l.proposers p i) p) (standing l.reviewers m.reviewers (entry l.proposers p i)))) h p i b.on_list) in
          false≢true (sym no ∙ and_from _ _ (lt-ltb _ _ b.proposer_gains) (lt-ltb _ _ b.reviewer_gains));
    }

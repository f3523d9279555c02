-- What is left between two pairings, and that every stable pair is.
use Rattle.std.proofs.Common.{◌≡◌, ℕ, zero, suc, ◌+◌, ◌-◌, ◌<◌, ◌≤◌, inl, inr, arith, refl, sym, ap, ◌∙◌, Bool, true, false, ◌&&◌, cond, List, [], ◌∷◌, ◌++◌, Option, Some, None, MatchOption, length, take, take_all, get_or}
use Rattle.std.specs.List.{filter, Contains}
use Rattle.std.proofs.lemmas.Bool.{le-leb, lt-leb}
use Rattle.std.proofs.lemmas.List.{append-nil}
use Rattle.std.proofs.lemmas.List.Elements.{filter_more}
use Rattle.std.proofs.lemmas.List.FromFn.{get_or-map-range_with_len}
use Rattle.std.proofs.lemmas.Option.{none-some}
use Rattle.sm_market.specs.Lists.{Lists, row, entry, place_of, IsMarket}
use Rattle.sm_market.specs.Matching.{Places, held}
use Rattle.sm_market.specs.Stable.{IsStable, IsProposersBest, IsReviewersBest}
use Rattle.sm_market.specs.Reduced.{is_no_worse, reduced_row, reduced_lists_of}
use Rattle.sm_market.proofs.Bridge.{held_cases, standing-some}
use Rattle.sm_market.proofs.LawsProved.{same_agents, proposers_best_is_worst}
use Rattle.sm_market.proofs.PlaceLemmas.{place_of-entry}
use Rattle.sm_lists.proofs.RowLemmas.{row_in_range}
use Rattle.sm_accept.specs.Reducing.{KeepsStablePairs}

-- two tests pass together in either order
pub and_comm : (s t : Bool) → (s && t) ≡ (t && s)
and_comm true true = refl
and_comm true false = refl
and_comm false true = refl
and_comm false false = refl

-- one more element of a filtered list
pub filter_step : (test : ℕ → Bool) (xs : List ℕ) (i x : ℕ) (t : Bool) (before after : List ℕ) → i < length xs → x ≡ get_or xs i 0 → t ≡ test x
    → before ≡ filter test (take i xs) → after ≡ before ++ cond t (x ∷ []) [] → after ≡ filter test (take (i + 1) xs)
filter_step test xs i x t before after h is tested so_far added =
    added ∙ ap (λ front. front ++ cond t (x ∷ []) []) so_far
    ∙ ap (λ t. filter test (take i xs) ++ cond t (x ∷ []) []) tested
    ∙ ap (λ y. filter test (take i xs) ++ cond (test y) (y ∷ []) []) is
    ∙ sym (filter_more test xs i 0 h)

-- elements that fail the test add nothing to a filtered list
pub filter_skip : (test : ℕ → Bool) (xs : List ℕ) (i d : ℕ) → i + d ≤ length xs → ((j : ℕ) → i ≤ j → j < i + d → test (get_or xs j 0) ≡ false)
    → filter test (take (i + d) xs) ≡ filter test (take i xs)
filter_skip test xs i zero h fails = let e : i + zero ≡ i = omega arith in rw e refl
filter_skip test xs i (suc d) h fails =
    let e : i + suc d ≡ i + d + 1 = omega arith in
    rw e (filter_more test xs (i + d) 0 (omega arith)
    ∙ ap (λ t. filter test (take (i + d) xs) ++ cond t (get_or xs (i + d) 0 ∷ []) []) (fails (i + d) (omega arith) (omega arith))
    ∙ append-nil (filter test (take (i + d) xs))
    ∙ filter_skip test xs i d (omega arith) (λ j a b. fails j a (omega arith)))

-- where no item between two places passes, the fronts up to them keep the same
pub filter_to : (test : ℕ → Bool) (xs : List ℕ) (i k : ℕ) → i ≤ k → k ≤ length xs → ((j : ℕ) → i ≤ j → j < k → test (get_or xs j 0) ≡ false)
    → filter test (take k xs) ≡ filter test (take i xs)
filter_to test xs i k le on fails =
    let e : i + (k - i) ≡ k = omega arith in
    rw e at (filter_skip test xs i (k - i) (omega arith) (λ j a b. fails j a (omega arith)))

-- nobody behind the partner that an agent has at its worst stays on its list, and nobody stays on that of an unmatched one
module _ (rows others : List (List ℕ)) (worst theirs : List (Option ℕ)) (a : ℕ) where
  behind_fails : (n j : ℕ) → place_of rows a (entry rows a j) ≡ j → MatchOption (held worst a) (n ≡ 0) (λ place. n ≡ place + 1) → n ≤ j → is_no_worse rows worst a (entry rows a j) ≡ false
  behind_fails n j sound ends from = go (held worst a) refl ends
    where
      go : (o : Option ℕ) → held worst a ≡ o → MatchOption o (n ≡ 0) (λ place. n ≡ place + 1) → is_no_worse rows worst a (entry rows a j) ≡ false
      go None is _ = rw is refl
      go (Some place) is ends = rw is (lt-leb (place_of rows a (entry rows a j)) place (omega arith))

  pub front_kept : (n k : ℕ) (list : List ℕ) → ((j : ℕ) → j < length (row rows a) → place_of rows a (entry rows a j) ≡ j) → MatchOption (held worst a) (n ≡ 0) (λ place. n ≡ place + 1)
      → n ≤ length (row rows a) → k ≡ n → list ≡ filter (λ b. is_no_worse rows worst a b && is_no_worse others theirs b a) (take k (row rows a)) → list ≡ reduced_row rows others worst theirs a
  front_kept n k list sound ends fits all is =
      let kept : ℕ → Bool = λ b. is_no_worse rows worst a b && is_no_worse others theirs b a in
      let fails : (j : ℕ) → n ≤ j → j < length (row rows a) → kept (entry rows a j) ≡ false = λ j from on. ap (λ t. t && is_no_worse others theirs (entry rows a j) a) (behind_fails n j (sound j on) ends from) in
      is ∙ ap (λ i. filter kept (take i (row rows a))) all ∙ sym (filter_to kept (row rows a) n (length (row rows a)) fits (omega arith) fails) ∙ ap (filter kept) (take_all (length (row rows a)) (row rows a) (omega arith))

-- what is in a list is in a longer one
contains_later : (x y : ℕ) (xs : List ℕ) → Contains xs x → Contains (y ∷ xs) x
contains_later x y xs w = (suc w.0, omega (arith, w.1), w.2)

-- what passes a test is in the filtered list
pub filter-contains : (test : ℕ → Bool) (xs : List ℕ) (k x : ℕ) → k < length xs → get_or xs k 0 ≡ x → test x ≡ true → Contains (filter test xs) x
filter-contains test [] k x less at passes = absurd (omega arith)
filter-contains test (y ∷ xs) zero x less at passes = let first : y ≡ x = at in rw (first, passes) (0, omega arith, refl)
filter-contains test (y ∷ xs) (suc k) x less at passes =
    let rest = filter-contains test xs k x (omega arith) at passes in
    elim (test y) as (λ t. Contains (cond t (y ∷ filter test xs) (filter test xs)) x) [ true ↦ contains_later x y (filter test xs) rest | false ↦ rest ]

-- one who is matched likes its partner no less than the one that it has at its worst
no_worse_at : (rows : List (List ℕ)) (places : List (Option ℕ)) (a b w : ℕ) → held places a ≡ Some w → place_of rows a b ≤ w → is_no_worse rows places a b ≡ true
no_worse_at rows places a b w is le = rw is (le-leb _ _ le)

module _ {l : Lists} {first last n : Places} (h : IsMarket l) (f : IsProposersBest l first) (g : IsReviewersBest l last) (s : IsStable l n) where
  -- a proposer's partner in a stable matching is no worse than its partner in the reviewers' best
  proposer_keeps : (p i b : ℕ) → held n.proposers p ≡ Some i → place_of l.proposers p b ≡ i → is_no_worse l.proposers last.proposers p b ≡ true
  proposer_keeps p i b e at = elim (held_cases l.proposers last.proposers p) [
    | inl w ↦ absurd (none-some _ (sym ((same_agents l last n h g.stable s).0 p w.held_is) ∙ e))
    | inr w ↦ no_worse_at l.proposers last.proposers p b w.place w.held_is (omega (arith, g.worst n s p, w.standing_is, standing-some l.proposers n.proposers p i e))
  ]

  -- and a reviewer's no worse than its partner in the proposers' best
  reviewer_keeps : (r k b : ℕ) → held n.reviewers r ≡ Some k → place_of l.reviewers r b ≡ k → is_no_worse l.reviewers first.reviewers r b ≡ true
  reviewer_keeps r k b e at = elim (held_cases l.reviewers first.reviewers r) [
    | inl w ↦ absurd (none-some _ (sym ((same_agents l first n h f.stable s).1 r w.held_is) ∙ e))
    | inr w ↦ no_worse_at l.reviewers first.reviewers r b w.place w.held_is (omega (arith, proposers_best_is_worst l first n h f s r, w.standing_is, standing-some l.reviewers n.reviewers r k e))
  ]

  -- a stable pair stays on the list of its proposer
  pub proposer_kept : (p i : ℕ) → held n.proposers p ≡ Some i → Contains (row (reduced_lists_of l first last).proposers p) (entry l.proposers p i)
  proposer_kept p i e =
      let on = s.matching.proposers.on_list p i e in
      let r : ℕ = entry l.proposers p i in
      let turn : held n.reviewers r ≡ Some (place_of l.reviewers r p) = s.matching.proposers.in_turn p i e in
      rw (get_or-map-range_with_len (reduced_row l.proposers l.reviewers last.proposers first.reviewers) 0 (length l.proposers) p p [] (row_in_range l.proposers p i on) (omega arith))
      (filter-contains (λ b. is_no_worse l.proposers last.proposers p b && is_no_worse l.reviewers first.reviewers b p) (row l.proposers p) i r on refl
      (rw (proposer_keeps p i r e (place_of-entry h.proposers p i on), reviewer_keeps r (place_of l.reviewers r p) p turn refl) refl))

  -- and on that of its reviewer
  pub reviewer_kept : (r k : ℕ) → held n.reviewers r ≡ Some k → Contains (row (reduced_lists_of l first last).reviewers r) (entry l.reviewers r k)
  reviewer_kept r k e =
      let on = s.matching.reviewers.on_list r k e in
      let p : ℕ = entry l.reviewers r k in
      let turn : held n.proposers p ≡ Some (place_of l.proposers p r) = s.matching.reviewers.in_turn r k e in
      rw (get_or-map-range_with_len (reduced_row l.reviewers l.proposers first.reviewers last.proposers) 0 (length l.reviewers) r r [] (row_in_range l.reviewers r k on) (omega arith))
      (filter-contains (λ b. is_no_worse l.reviewers first.reviewers r b && is_no_worse l.proposers last.proposers b r) (row l.reviewers r) k p on refl
      (rw (reviewer_keeps r k p e (place_of-entry h.reviewers r k on), proposer_keeps p (place_of l.proposers p r) r turn refl) refl))

-- the reduced lists between the two best matchings keep each stable pair
pub keeps_stable_pairs : {l : Lists} {first last : Places} → IsMarket l → IsProposersBest l first → IsReviewersBest l last → KeepsStablePairs l (reduced_lists_of l first last)
keeps_stable_pairs h f g = record { proposers = λ n s p i e. proposer_kept h f g s p i e; reviewers = λ n s r k e. reviewer_kept h f g s r k e }

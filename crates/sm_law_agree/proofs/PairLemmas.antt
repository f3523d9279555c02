-- The pairs of a matching in the order of the proposers: each may stand behind those before it, and they give the matching.
-- Their lines in an answer, whatever word they begin with.
use Rattle.std.proofs.Common.{◌≡◌, ℕ, ◌&&◌, ◌+◌, ◌<◌, ◌≤◌, ◌==◌, arith, refl, sym, ap, ◌∙◌, cond, Bool, true, List, [], ◌∷◌, ◌++◌, length, Option, Some, None, IsSome, subst, inl, inr, ext_get_or, eq-eqb}
use Rattle.std.specs.Prelude.{filter_map}
use Rattle.std.specs.List.{list_all}
use Rattle.std.specs.Option.{option_map}
use Rattle.std.proofs.lemmas.Bool.{false≢true}
use Rattle.std.proofs.lemmas.List.FromFn.{length-map-range_with_len}
use Rattle.sm_lists.proofs.Counting.{eq_or_ne}
use Rattle.sm_agents.specs.Written.{Written, entry, place_of}
use Rattle.sm_instance.specs.Matching.{held, leads_to, load_before, IsAssignment, IsMatching}
use Rattle.sm_agents.specs.Sound.{IsInstance, AreSoundEntries}
use Rattle.sm_agents.proofs.ListLemmas.{row_in_range}
use Rattle.sm_instance.proofs.LoadLemmas.{load_before-suc}
use Rattle.sm_instance.proofs.BreachLemmas.{load_mono}
use Rattle.sm_instance.proofs.PlaceLemmas.{place_of-entry}
use Rattle.sm_holding.specs.Held.{partner_in, paired_place, places_in, times_second, CanFollow}
use Rattle.sm_holding.proofs.HoldingLemmas.{partner_in-push_same, partner_in-push_other, held_place}
use Rattle.sm_holding.proofs.PairLemmas.{times_second-push}
use Rattle.sm_report.specs.Lines.{LineData}
use Rattle.sm_answer.specs.Lines.{line_or_none, lines_from}
use Rattle.sm_check_clauses.specs.declared.verdicts.Reason.{Reason}
use Rattle.sm_check_clauses.specs.Pairs.{IsWanted, AreAllThere}
use Rattle.sm_check_clauses.proofs.AnswerLemmas.{said_one}
use Rattle.sm_law_agree.proofs.LineLemmas.{Steps, Held, numbers_hold, numbers_pass}

-- the reviewer that a proposer has
abbrev pub partner_of : Written → List (Option ℕ) → ℕ → Option ℕ
partner_of w places q = option_map (entry w.proposers q) (held places q)

-- the pairs of the proposers below p
pub record AreBelow (w : Written) (places : List (Option ℕ)) (p : ℕ) (pairs : List (ℕ × ℕ)) : Type 0 where
  pub below : (q : ℕ) → q < p → partner_in pairs q ≡ partner_of w places q
  pub past : (q : ℕ) → p ≤ q → partner_in pairs q ≡ None
  pub times : (r : ℕ) → times_second pairs r ≡ load_before w places p r

-- below the first proposer there are no pairs
pub none_below : (w : Written) (places : List (Option ℕ)) → AreBelow w places 0 []
none_below w places = record { below = λ q l. absurd (omega (arith, l)); past = λ q l. refl; times = λ r. refl }

module _ {w : Written} {places : List (Option ℕ)} {p : ℕ} {pairs : List (ℕ × ℕ)} (k : AreBelow w places p pairs) where
  -- who is matched has a pair
  pub one_below : (i : ℕ) → held places p ≡ Some i → AreBelow w places (p + 1) (pairs ++ (p, entry w.proposers p i) ∷ [])
  one_below i e =
      let r = entry w.proposers p i in
      let none = k.past p (omega arith) in
      record {
        below = λ q l. elim (eq_or_ne q p) [
          | inl is ↦ ap (partner_in (pairs ++ (p, r) ∷ [])) is ∙ partner_in-push_same pairs p r none ∙ sym (ap (option_map (entry w.proposers p)) e) ∙ ap (partner_of w places) (sym is)
          | inr ne ↦ partner_in-push_other pairs p r q none ne ∙ k.below q (omega (arith, l, ne))
        ];
        past = λ q l. partner_in-push_other pairs p r q none (λ e. omega (arith, l, e)) ∙ k.past q (omega (arith, l));
        times = λ s.
            times_second-push pairs p r s ∙ ap (λ n. n + cond (r == s) 1 0) (k.times s)
            ∙ sym (load_before-suc w places p s ∙ ap (λ o. load_before w places p s + cond (leads_to w p s o) 1 0) e);
      }

  -- who isn't has none
  pub same_below : held places p ≡ None → AreBelow w places (p + 1) pairs
  same_below e = record {
    below = λ q l. elim (eq_or_ne q p) [
      | inl is ↦ k.past q (omega (arith, is)) ∙ sym (ap (option_map (entry w.proposers p)) e) ∙ ap (partner_of w places) (sym is)
      | inr ne ↦ k.below q (omega (arith, l, ne))
    ];
    past = λ q l. k.past q (omega (arith, l));
    times = λ s.
        let more = load_before-suc w places p s ∙ ap (λ o. load_before w places p s + cond (leads_to w p s o) 1 0) e in
        let z : load_before w places p s + 0 ≡ load_before w places p s = omega arith in
        k.times s ∙ sym (more ∙ z);
  }

  -- the next pair may stand behind these
  pub free_below : IsMatching w places → (i : ℕ) → held places p ≡ Some i → CanFollow w pairs (p, entry w.proposers p i)
  free_below m i e =
      let r = entry w.proposers p i in
      let there = m.acceptable p i e in
      let inside = row_in_range w.proposers p (place_of w.proposers p r) there.proposer_lists in
      let more = load_before-suc w places p r ∙ ap (λ o. load_before w places p r + cond (leads_to w p r o) 1 0) e ∙ ap (λ t. load_before w places p r + cond t 1 0) (eq-eqb r r refl) in
      record {
        acceptable = there;
        proposer_free = k.past p (omega arith);
        place_free = omega (arith, k.times r, more, load_mono w places r (p + 1) (length w.proposers) (omega (arith, inside)), m.within r);
      }

-- the pairs of all proposers give the matching
pub all_below : {w : Written} {places : List (Option ℕ)} {pairs : List (ℕ × ℕ)} → AreBelow w places (length w.proposers) pairs → AreSoundEntries w.proposers (length w.reviewers) → IsAssignment w places
    → places_in w pairs ≡ places
all_below {w} {places} {pairs} k sound a =
    let long = length-map-range_with_len (paired_place w pairs) 0 (length w.proposers) in
    ext_get_or None (places_in w pairs) places (omega (arith, long, a.one_each)) (λ p l. at p (omega (arith, l, long)))
  where
    back : (p : ℕ) (o : Option ℕ) → held places p ≡ o → option_map (place_of w.proposers p) (option_map (entry w.proposers p) o) ≡ o
    back p None e = refl
    back p (Some i) e = ap Some (place_of-entry sound p (entry w.proposers p i) i (a.on_lists p i e) refl)

    at : (p : ℕ) → p < length w.proposers → held (places_in w pairs) p ≡ held places p
    at p l = held_place w pairs p l ∙ ap (option_map (place_of w.proposers p)) (k.below p l) ∙ back p (held places p) refl

-- The pairs of a matching are those that are wanted.
module _ {w : Written} (i : IsInstance w) (wanted : List (Option ℕ)) (a : IsAssignment w wanted) where
  -- the pair of the next proposer is wanted behind those before it
  pub wanted_pair : (pairs : List (ℕ × ℕ)) (p k : ℕ) → AreBelow w wanted p pairs → held wanted p ≡ Some k → IsWanted w wanted pairs (p, entry w.proposers p k)
  wanted_pair pairs p k below e = record {
    in_matching = e ∙ ap Some (sym (place_of-entry i.proposer_entries p (entry w.proposers p k) k (a.on_lists p k e) refl));
    once = below.past p (omega arith);
  }

  -- each proposer that is matched stands in one of them
  pub all_wanted : (pairs : List (ℕ × ℕ)) → AreBelow w wanted (length w.proposers) pairs → AreAllThere wanted pairs
  all_wanted pairs below p some = go (held wanted p) refl some
    where
      go : (o : Option ℕ) → held wanted p ≡ o → IsSome o → IsSome (partner_in pairs p)
      go None e s = absurd (false≢true s)
      go (Some k) e s =
          let inside = row_in_range w.proposers p k (a.on_lists p k e) in
          subst IsSome (sym (below.below p inside ∙ ap (option_map (entry w.proposers p)) e)) refl

-- The lines of the pairs.

-- the line of a proposer's pair, if it is matched
abbrev pub line_with : (ℕ → ℕ → LineData) → Written → List (Option ℕ) → ℕ → Option LineData
line_with pair w places p = option_map (λ i. pair p (entry w.proposers p i)) (held places p)

-- the lines of the pairs of all proposers
abbrev pub lines_with : (ℕ → ℕ → LineData) → Written → List (Option ℕ) → List LineData
lines_with pair w places = lines_from (line_with pair w places) 0 (length w.proposers)

-- these lines say pairs, and whatever else is known of the lines above stays known
module _ (Clauses : List LineData → LineData → Reason → Type 0) (w : Written) (places : List (Option ℕ)) (said : LineData → Option (ℕ × ℕ)) (pair : ℕ → ℕ → LineData)
    (is_said : (p r : ℕ) → said (pair p r) ≡ Some (p, r)) (Known : List LineData → Type 0) where
  -- the pairs of the proposers below p stand above
  abbrev pub Above : ℕ → List LineData → Type 0
  Above p above = AreBelow w places p (filter_map said above) × Known above

  module _ (keep : (above : List LineData) (p r : ℕ) → Known above → Known (above ++ pair p r ∷ []))
      (holds : (above : List LineData) (p i : ℕ) → Above p above → held places p ≡ Some i → (why : Reason) → Clauses above (pair p (entry w.proposers p i)) why) where
    step : (p : ℕ) (above : List LineData) → Above p above → Steps Clauses (Above (p + 1)) above (line_with pair w places p)
    step p above k = go (held places p) refl
      where
        go : (o : Option ℕ) → held places p ≡ o → Steps Clauses (Above (p + 1)) above (option_map (λ i. pair p (entry w.proposers p i)) o)
        go None e = (same_below k.0 e, k.1)
        go (Some i) e =
            let r = entry w.proposers p i in (
              holds above p i k e,
              (subst (AreBelow w places (p + 1)) (sym (said_one said above (pair p r) (p, r) (is_said p r))) (one_below k.0 i e), keep above p r k.1),
            )

    -- all clauses hold at the lines of the pairs, where they do at each behind the ones before it
    pub pairs_hold : (above : List LineData) → filter_map said above ≡ [] → Known above → Held Clauses (Above (length w.proposers)) above (lines_with pair w places)
    pairs_hold above none known =
        numbers_hold Clauses Above (line_with pair w places) (length w.proposers) (λ p now l k. step p now k) 0 (length w.proposers) above (omega arith)
        (subst (AreBelow w places 0) (sym none) (none_below w places), known)

-- tests that all pairs pass
pub pairs_pass : (pair : ℕ → ℕ → LineData) (w : Written) (places : List (Option ℕ)) (test : LineData → Bool) → ((p r : ℕ) → test (pair p r) ≡ true) → list_all test (lines_with pair w places) ≡ true
pairs_pass pair w places test each = numbers_pass test (line_with pair w places) (length w.proposers) (λ p l. go p (held places p)) 0 (length w.proposers) (omega arith)
  where
    go : (p : ℕ) (o : Option ℕ) → list_all test (line_or_none (option_map (λ i. pair p (entry w.proposers p i)) o)) ≡ true
    go p None = refl
    go p (Some i) = ap (λ t. t && true) (each p (entry w.proposers p i))

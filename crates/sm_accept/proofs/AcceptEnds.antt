-- Where the proposers end.
use Rattle.std.proofs.Common.{◌≡◌, ℕ, ◌<◌, ◌≤◌, List, [], Option, Some, None, length, get_or, unwrap_or, sym, ap, subst, ◌∙◌, arith, ⊎_elim}
use Rattle.std.proofs.lemmas.Bool.{cases_lt}
use Rattle.std.proofs.lemmas.List.{get_or_past}
use Rattle.sm_market.specs.Lists.{Lists, row, entry, place_of, IsMarket}
use Rattle.sm_market.specs.Matching.{Places, held, standing, IsMatching}
use Rattle.sm_market.specs.Stable.{IsProposersBest}
use Rattle.sm_market.specs.PairingFaults.{IsTaken}
use Rattle.sm_lists.proofs.PlaceLemmas.{place_of-le, entry-place_of}
use Rattle.sm_market.proofs.PlaceLemmas.{place_of-entry}
use Rattle.sm_lists.proofs.RowLemmas.{row_in_range}
use Rattle.sm_accept.proofs.BestLemmas.{worst_of_reviewers}
use Rattle.sm_accept.specs.Accepting.{IsHolding, holds, IsProgress, EndsAt, AreEnds, AreBestPlaces}

-- the place at which a proposer ends is its next
end_at : (len next : ℕ) (o : Option ℕ) (i : ℕ) → EndsAt len next o → o ≡ Some i → (i ≡ next) × (i < len)
end_at len next None i end e = cc
end_at len next (Some j) i end e = let same : j ≡ i = cc in (omega (arith, end.0), omega (arith, end.1))

-- so it stands there
end_stands : (len next : ℕ) (o : Option ℕ) → next ≤ len → EndsAt len next o → unwrap_or o len ≡ next
end_stands len next None le end = omega arith
end_stands len next (Some j) le end = end.0

-- and holds it where it is on the list
end_holds : (len next : ℕ) (o : Option ℕ) → next < len → EndsAt len next o → o ≡ Some next
end_holds len next None lt end = absurd (omega arith)
end_holds len next (Some j) lt end = ap Some end.0

module _ {l : Lists} {next standings : List ℕ} {places : List (Option ℕ)} {b : ℕ} (market : IsMarket l) (g : IsProgress l b b next standings) (all : b ≡ length l.proposers) (ends : AreEnds l next places) where
  -- every proposer ends at its next place
  ends_at : (p i : ℕ) → held places p ≡ Some i → (i ≡ get_or next p 0) × (i < length (row l.proposers p))
  ends_at p i h =
      ⊎_elim
      (λ lt. end_at (length (row l.proposers p)) (get_or next p 0) (held places p) i (ends.ends p lt) h)
      (λ ge. let each = ends.one_each in let none = get_or_past places p None (omega arith) in cc)
      (cases_lt p (length l.proposers))

  stands_at : (p : ℕ) → standing l.proposers places p ≡ get_or next p 0
  stands_at p =
      ⊎_elim
      (λ lt. end_stands (length (row l.proposers p)) (get_or next p 0) (held places p) (g.next_on_list p) (ends.ends p lt))
      (λ ge.
      let each = ends.one_each in
      let none : held places p ≡ None = get_or_past places p None (omega arith) in
      let e = ap length (get_or_past l.proposers p [] ge) in
      let le = g.next_on_list p in
      ap (λ o. unwrap_or o (length (row l.proposers p))) none ∙ omega arith)
      (cases_lt p (length l.proposers))

  -- its reviewer holds it
  held_at : (p i : ℕ) → held places p ≡ Some i → let r = entry l.proposers p i in get_or standings r 0 ≡ place_of l.reviewers r p
  held_at p i h =
      let at = ends_at p i h in
      let on : i < length (row l.proposers p) = at.1 in
      let in_range = row_in_range l.proposers p i on in
      let Q : ℕ → Type 0 = λ x. x < length (row l.proposers p) → get_or standings (entry l.proposers p x) 0 ≡ place_of l.reviewers (entry l.proposers p x) p in
      subst Q (sym at.0) (g.others_rest p (omega arith) (omega arith)) on

  untaken_at : (p : ℕ) → ¬ IsTaken l places p
  untaken_at p t =
      let r : ℕ = entry l.proposers p t.at in
      let Q : ℕ → Type 0 = λ c. get_or standings c 0 ≡ place_of l.reviewers c t.earlier in
      let R : ℕ → Type 0 = λ c. place_of l.reviewers c t.earlier < length (row l.reviewers c) in
      let one : get_or standings r 0 ≡ place_of l.reviewers r t.earlier = subst Q t.same (held_at t.earlier t.there t.earlier_holds) in
      let two : get_or standings r 0 ≡ place_of l.reviewers r p = held_at p t.at t.holds in
      let on_one : place_of l.reviewers r t.earlier < length (row l.reviewers r) = subst R t.same (market.proposers.returned t.earlier t.there (ends_at t.earlier t.there t.earlier_holds).1) in
      let on_two : place_of l.reviewers r p < length (row l.reviewers r) = market.proposers.returned p t.at (ends_at p t.at t.holds).1 in
      let same : t.earlier ≡ p = sym (entry-place_of l.reviewers r t.earlier on_one) ∙ ap (λ k. entry l.reviewers r k) (sym one ∙ two) ∙ entry-place_of l.reviewers r p on_two in
      let before = t.before in
      omega arith

  -- a reviewer that holds somebody has it in the matching
  reviewer_stands : (m : Places) → IsMatching l m → m.proposers ≡ places → (r : ℕ) → IsHolding l standings r → standing l.reviewers m.reviewers r ≡ get_or standings r 0
  reviewer_stands m matching is r holding =
      let j : ℕ = get_or standings r 0 in
      let q : ℕ = holds l standings r in
      let next_is : get_or next q 0 ≡ place_of l.proposers q r = g.holds_next r holding in
      let listed : place_of l.proposers q r < length (row l.proposers q) = market.reviewers.returned r j holding in
      let there : entry l.proposers q (place_of l.proposers q r) ≡ r = entry-place_of l.proposers q r listed in
      let rank : place_of l.reviewers r q ≡ j = place_of-entry market.reviewers r j holding in
      let in_range = row_in_range l.proposers q (place_of l.proposers q r) listed in
      let has : held m.proposers q ≡ Some (place_of l.proposers q r) = ap (λ o. held o q) is ∙ end_holds (length (row l.proposers q)) (get_or next q 0) (held places q) (omega arith) (ends.ends q in_range) ∙ ap Some next_is in
      let Q : ℕ → Type 0 = λ c. held m.reviewers c ≡ Some (place_of l.reviewers c q) in
      let turn : held m.reviewers r ≡ Some (place_of l.reviewers r q) = subst Q there (matching.proposers.in_turn q (place_of l.proposers q r) has) in
      ap (λ o. unwrap_or o (length (row l.reviewers r))) turn ∙ rank

  best_at : (m : Places) → IsMatching l m → m.proposers ≡ places → IsProposersBest l m
  best_at m matching is =
      let stands : (p : ℕ) → standing l.proposers m.proposers p ≡ get_or next p 0 = λ p. ap (λ o. standing l.proposers o p) is ∙ stands_at p in
      record {
        stable = record {
          matching = matching;
          unblocked = λ p i blocks.
              let r : ℕ = entry l.proposers p i in
              let at = stands p in
              let gains : i < standing l.proposers m.proposers p = blocks.proposer_gains in
              let down : get_or standings r 0 < place_of l.reviewers r p = g.turned_down p i (omega arith) in
              let le = place_of-le l.reviewers r p in
              let holding : IsHolding l standings r = omega arith in
              let same = reviewer_stands m matching is r holding in
              let reviewer_gains : place_of l.reviewers r p < standing l.reviewers m.reviewers r = blocks.reviewer_gains in
              omega arith;
        };
        best = λ n s p. let at = stands p in let le = g.best n s p in omega arith;
      }

  -- the places are those of the proposers' best
  pub best_places_at : AreBestPlaces l places
  best_places_at =
      record {
        held = record {
          one_each = ends.one_each;
          on_lists = λ p h. let at = ends_at p h.at h.holds in let past = h.past in omega (arith, at.1);
          untaken = untaken_at;
        };
        best = best_at;
        worst = λ m f same. worst_of_reviewers market (best_at m f same);
      }

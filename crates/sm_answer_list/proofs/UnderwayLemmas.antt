-- A listing that is under way, and how it ends.
use Rattle.std.proofs.Common.{◌≡◌, ℕ, suc, ◌+◌, ◌-◌, ◌≤◌, List, [], ◌∷◌, ◌++◌, Bool, true, false, length, Option, Some, None, unwrap_or, refl, sym, ap, ◌∙◌, subst, arith}
use Rattle.std.proofs.lemmas.List.{length-append, append_assoc, append-nil}
use Rattle.sm_agents.specs.Written.{Written}
use Rattle.sm_instance.specs.Ranks.{IsBefore, order_of}
use Rattle.sm_theory.specs.Listings.{end_of, IsBehind, IsListing}
use Rattle.sm_theory.proofs.Vectors.Order.{irreflexive, transitive}
use Rattle.sm_theory.proofs.Vectors.Listings.{more_listing, none_listed, none_wanted}
use Rattle.sm_seats.specs.Vectors.{IsAllowedRankVector}
use Rattle.sm_lister.specs.Listers.{Lister, IsNextOf, IsAtEnd, IsSameLister}
use Rattle.sm_lister.specs.Rests.{IsListingOf}
use Rattle.sm_lister.proofs.RestLemmas.{same_lists}
use Rattle.sm_answer_list.specs.Started.{IsListerOf}
use Rattle.sm_answer_list.specs.Underway.{AreListedSoFar}
use Rattle.sm_answer_list.proofs.ListLemmas.{same_back, same_one, written_vector, listed_written}

-- nothing is listed
pub none_so_far : {w : Written} {s : Lister} → IsListerOf w None s → AreListedSoFar w s []
none_so_far {w} {s} h = record {
  start = s;
  started = h;
  same = record { poset = refl; levels = refl; forced = refl; forbidden = refl; order = refl };
  cursor = h.cursor;
  whole = λ n rest more x.
      let e : n ≡ 0 + n = omega arith in
      subst (λ k. IsListingOf s None k rest more) e (subst (λ c. IsListingOf s c n rest more) h.cursor x);
}

-- the vector at the cursor is the one that was found
at_cursor : {c : Option (List ℕ)} {u v : List ℕ} → c ≡ Some u → c ≡ Some v → u ≡ v
at_cursor e f = ap (λ o. unwrap_or o []) (sym e ∙ f)

-- so that vector is of an allowed stable matching
pub current_allowed : {w : Written} {s : Lister} {vectors : List (List ℕ)} (t : Lister) (v : List ℕ) → AreListedSoFar w s vectors
    → (u : List ℕ) × (t.cursor ≡ Some u) × IsNextOf s u → t.cursor ≡ Some v → IsAllowedRankVector w v
current_allowed {w} {s} t v h found at =
    let next = subst (IsNextOf s) (at_cursor found.1 at) found.2 in
    written_vector h.started (same_one h.same next.one)

same_both : {r s t : Lister} → IsSameLister r s → IsSameLister s t → IsSameLister r t
same_both e f = record {
  poset = f.poset ∙ e.poset;
  levels = f.levels ∙ e.levels;
  forced = f.forced ∙ e.forced;
  forbidden = f.forbidden ∙ e.forbidden;
  order = f.order ∙ e.order;
}

end_more : (cursor : Option (List ℕ)) (vs : List (List ℕ)) (v : List ℕ) → end_of cursor (vs ++ v ∷ []) ≡ Some v
end_more cursor [] v = refl
end_more cursor (u ∷ us) v = end_more (Some u) us v

-- one more vector is listed
pub one_more_so_far : {w : Written} {s t : Lister} {vectors : List (List ℕ)} (v : List ℕ) → AreListedSoFar w s vectors → IsSameLister s t
    → (u : List ℕ) × (t.cursor ≡ Some u) × IsNextOf s u → t.cursor ≡ Some v → AreListedSoFar w t (vectors ++ v ∷ [])
one_more_so_far {w} {s} {t} {vectors} v h same found at =
    let next = subst (IsNextOf s) (at_cursor found.1 at) found.2 in
    let long = length-append vectors (v ∷ []) in
    record {
      start = h.start;
      started = h.started;
      same = same_both h.same same;
      cursor = at ∙ sym (end_more None vectors v);
      whole = λ n rest more x.
          let first : IsListingOf s s.cursor (suc n) (v ∷ rest) more = more_listing (irreflexive s.order) (transitive s.order) next (same_lists (same_back h.same) (subst (λ c. IsListingOf h.start c n rest more) at x)) in
          let all = h.whole (suc n) (v ∷ rest) more (same_lists h.same first) in
          let e : length vectors + suc n ≡ length (vectors ++ v ∷ []) + n = omega (arith, long) in
          let f : vectors ++ v ∷ rest ≡ (vectors ++ v ∷ []) ++ rest = sym (append_assoc vectors (v ∷ []) rest) in
          subst (λ out. IsListingOf h.start None (length (vectors ++ v ∷ []) + n) out more) f (subst (λ m. IsListingOf h.start None m (vectors ++ v ∷ rest) more) e all);
    }

-- a step that finds nothing changes nothing
pub stays_so_far : {w : Written} {s t : Lister} {vectors : List (List ℕ)} → AreListedSoFar w s vectors → IsSameLister s t → t.cursor ≡ s.cursor → AreListedSoFar w t vectors
stays_so_far h same at = record {
  start = h.start;
  started = h.started;
  same = same_both h.same same;
  cursor = at ∙ h.cursor;
  whole = λ n rest more x. h.whole n rest more (subst (λ c. IsListingOf h.start c n rest more) at x);
}

-- a lister at its end stays there
pub stays_at_end : {s t : Lister} → IsSameLister s t → t.cursor ≡ s.cursor → IsAtEnd s → IsAtEnd t
stays_at_end {s} {t} same at end = λ v one behind. end v (same_one same one) (subst (λ o. IsBehind (IsBefore o) s.cursor v) same.order (subst (λ c. IsBehind (IsBefore t.order) c v) at behind))

-- what was listed, and what is behind it up to a limit, are what is listed of the instance
listed_up_to : {w : Written} {s : Lister} {vectors : List (List ℕ)} (limit n : ℕ) (more : Bool) → (h : AreListedSoFar w s vectors)
    → IsListingOf s s.cursor n [] more → length vectors + n ≡ limit → IsListing (IsBefore (order_of w)) (IsAllowedRankVector w) None limit vectors more
listed_up_to {w} {s} {vectors} limit n more h x is =
    let whole = h.whole n [] more (same_lists h.same x) in
    let all = listed_written h.started (subst (λ c. IsListingOf h.start c (length vectors + n) (vectors ++ []) more) (sym h.started.cursor) whole) in
    subst (λ m. IsListing (IsBefore (order_of w)) (IsAllowedRankVector w) None m vectors more) is
    (subst (λ vs. IsListing (IsBefore (order_of w)) (IsAllowedRankVector w) None (length vectors + n) vs more) (append-nil vectors) all)

-- the lister is at its end: these are all
pub whole_listing : {w : Written} {s : Lister} {vectors : List (List ℕ)} (limit : ℕ) → AreListedSoFar w s vectors → length vectors ≤ limit → IsAtEnd s
    → IsListing (IsBefore (order_of w)) (IsAllowedRankVector w) None limit vectors false
whole_listing {w} {s} {vectors} limit h within end =
    listed_up_to limit (limit - length vectors) false h (none_listed (irreflexive s.order) (transitive s.order) end) (omega (arith, within))

-- as many are listed as are wanted
pub cut_listing : {w : Written} {s : Lister} {vectors : List (List ℕ)} (limit : ℕ) (more : Bool) → AreListedSoFar w s vectors → length vectors ≡ limit
    → IsListingOf s s.cursor 0 [] more → IsListing (IsBefore (order_of w)) (IsAllowedRankVector w) None limit vectors more
cut_listing {w} {s} {vectors} limit more h full x = listed_up_to limit 0 more h x (omega (arith, full))

-- a vector that is found behind the cursor is more than no vectors
pub more_behind : (s t : Lister) → (u : List ℕ) × (t.cursor ≡ Some u) × IsNextOf s u → IsListingOf s s.cursor 0 [] true
more_behind s t found = none_wanted (irreflexive s.order) (transitive s.order) found.0 found.2

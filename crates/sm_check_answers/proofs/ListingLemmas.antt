-- The lines of `list`, one after another.
use Rattle.std.proofs.Common.{◌≡◌, ℕ, ◌+◌, arith, refl, sym, ap, ◌∙◌, List, [], ◌∷◌, ◌++◌, length, append-nil, lt-ltb, Option, None, Some, eqb-true, length-append, subst, true, Vec, Global}
use Rattle.std.specs.Prelude.{if◌then◌else◌}
use Rattle.std.proofs.lemmas.List.Elements.{filter_map-append}
use Rattle.sm_agents.specs.Written.{Written}
use Rattle.sm_theory.specs.Listings.{end_of}
use Rattle.sm_report.specs.declared.lines.Line.{Line}
use Rattle.sm_report.specs.declared.lines.Line.TheVariants as line
use Rattle.sm_report.specs.Lines.{LineData, line_of}
use Rattle.sm_check_clauses.specs.declared.verdicts.Reason.{Reason}
use Rattle.sm_check_clauses.specs.Verdicts.{Finds}
use Rattle.sm_check_clauses.specs.Said.{vector_in, vectors_in}
use Rattle.sm_check_clauses.specs.Vectors.{places_of_ranks, VectorHolds, MoreHolds, ListHolds, ListClauses}
use Rattle.sm_check_answers.specs.Tried.{HasTrialRoom, IsTried}
use Rattle.sm_check_answers.specs.declared.tried.Tried.{Tried}
use Rattle.sm_check_forms.specs.Forms.{fits_two}
use Rattle.sm_check_clauses.specs.Walking.{FindsOrKeeps}
use Rattle.sm_check_clauses.proofs.AnswerLemmas.{finds_keeping}
use Rattle.sm_check_answers.specs.Listing.{last_or, AreVectorsKept}

-- the last vector of two lists is that of the second, or else of the first
pub end_of-append : (x : Option (List ℕ)) (xs ys : List (List ℕ)) → end_of x (xs ++ ys) ≡ end_of (end_of x xs) ys
end_of-append x [] ys = refl
end_of-append x (y ∷ xs) ys = end_of-append (Some y) xs ys

module _ {w : Written} {after : Option (List ℕ)} {above : List LineData} {count : ℕ} {last : List ℕ} {tried : Tried} (k : AreVectorsKept w after above count last tried) where
  -- what is found at a line, by what is kept of those above it
  list_found : (limit : ℕ) (x : LineData) (before : Option (List ℕ)) (r : Option Reason) → before ≡ last_or count last after
      → Finds (ListHolds w before count limit x) r → Finds (ListClauses w after limit above x) r
  list_found limit x before r is f =
      subst (λ z. Finds (ListHolds w z (length (vectors_in above)) limit x) r) (is ∙ k.last_is)
      (subst (λ n. Finds (ListHolds w before n limit x) r) k.counted f)

  -- a line without a vector
  same_kept : (x : LineData) → vectors_in (x ∷ []) ≡ [] → AreVectorsKept w after (above ++ x ∷ []) count last tried
  same_kept x none =
      let same : vectors_in above ≡ vectors_in (above ++ x ∷ []) =
      sym (filter_map-append vector_in above (x ∷ []) ∙ ap (λ (vs : List (List ℕ)). vectors_in above ++ vs) none ∙ append-nil (vectors_in above)) in
      record {
        counted = k.counted ∙ ap length same;
        last_is = k.last_is ∙ ap (λ (vs : List (List ℕ)). end_of after vs) same;
        one_each = k.one_each;
        after_each = k.after_each;
        room = k.room;
        kept = k.kept;
      }

  -- a line with one
  more_kept : (v : List ℕ) (next : Tried) → length v ≡ length w.proposers → HasTrialRoom w next → IsTried w (places_of_ranks w v) next → AreVectorsKept w after (above ++ LineData.Vector v ∷ []) (count + 1) v next
  more_kept v next one room kept =
      let more = filter_map-append vector_in above (LineData.Vector v ∷ []) in
      let longer = length-append (vectors_in above) (v ∷ []) in
      record {
        counted = omega (arith, k.counted, ap length more, longer);
        last_is = ap (λ t. if t then Some v else after) (lt-ltb 0 (count + 1) (omega arith)) ∙ sym (ap (λ (vs : List (List ℕ)). end_of after vs) more ∙ end_of-append after (vectors_in above) (v ∷ []));
        one_each = one;
        after_each = k.after_each;
        room = room;
        kept = λ _. kept;
      }

  -- a vector of which no clause fails, and is kept
  pub vector_judged : (limit : ℕ) (x : LineData) (u v new : List ℕ) (before : Option (List ℕ)) (next : Tried) → x ≡ LineData.Vector v → u ≡ v → new ≡ v → before ≡ last_or count last after
      → fits_two w x ≡ true → HasTrialRoom w next → IsTried w (places_of_ranks w u) next → Finds (VectorHolds w before count limit u) None
      → Finds (ListClauses w after limit above x) None × AreVectorsKept w after (above ++ x ∷ []) (count + 1) new next
  vector_judged limit x u v new before next x_is u_is new_is is fit room kept f =
      let one = eqb-true (length v) (length w.proposers) (subst (λ y. fits_two w y ≡ true) x_is fit) in
      let found = list_found limit (LineData.Vector v) before None is (subst (λ z. Finds (VectorHolds w before count limit z) None) u_is f) in
      subst (λ y. Finds (ListClauses w after limit above y) None × AreVectorsKept w after (above ++ y ∷ []) (count + 1) new next) (sym x_is)
      (found, subst (λ z. AreVectorsKept w after (above ++ LineData.Vector v ∷ []) (count + 1) z next) (sym new_is) (more_kept v next one room (subst (λ z. IsTried w (places_of_ranks w z) next) u_is kept)))

  -- the last vector again
  pub more_judged : (limit : ℕ) (x : LineData) (u v : List ℕ) (before : Option (List ℕ)) (r : Option Reason) → x ≡ LineData.More v → u ≡ v → before ≡ last_or count last after
      → Finds (MoreHolds before count limit u) r → FindsOrKeeps (ListClauses w after limit above x) (AreVectorsKept w after (above ++ x ∷ []) count last tried) r
  more_judged limit x u v before r x_is u_is is f =
      subst (λ y. FindsOrKeeps (ListClauses w after limit above y) (AreVectorsKept w after (above ++ y ∷ []) count last tried) r) (sym x_is)
      (finds_keeping (ListClauses w after limit above (LineData.More v)) (AreVectorsKept w after (above ++ LineData.More v ∷ []) count last tried) r
      (list_found limit (LineData.More v) before r is (subst (λ z. Finds (MoreHolds before count limit z) r) u_is f)) (same_kept (LineData.More v) refl))

  -- any other line
  pub other_judged : (limit : ℕ) (x : Line) → ((v : Vec ℕ Global) → x ≡ line.Vector v → ⊥) → ((v : Vec ℕ Global) → x ≡ line.More v → ⊥)
      → Finds (ListClauses w after limit above (line_of x)) None × AreVectorsKept w after (above ++ line_of x ∷ []) count last tried
  other_judged limit (line.Vector v) no_vector no_more = absurd (no_vector v refl)
  other_judged limit (line.More v) no_vector no_more = absurd (no_more v refl)
  other_judged limit _ no_vector no_more = ((λ why. tt), same_kept _ refl)

-- What a yes on an answer of `list` means.
use Rattle.std.proofs.Common.{◌≡◌, ℕ, zero, suc, ◌+◌, ◌<◌, inl, inr, arith, refl, sym, ap, ◌∙◌, List, [], ◌∷◌, ◌++◌, length, take, slice_index_or, Option, None, Some, length-append, subst}
use Rattle.std.specs.Prelude.{IfSome}
use Rattle.std.specs.List.{slice_get}
use Rattle.sm_instance.specs.Ranks.{IsBefore, order_of}
use Rattle.sm_lists.proofs.Counting.{lt_or_le}
use Rattle.sm_agents.specs.Written.{Written}
use Rattle.sm_theory.specs.Listings.{IsBehind, end_of}
use Rattle.sm_report.specs.Lines.{LineData}
use Rattle.sm_check_clauses.specs.declared.verdicts.Reason.{Reason}
use Rattle.sm_check_clauses.specs.declared.verdicts.Reason.TheVariants as reason
use Rattle.sm_seats.specs.Vectors.{IsAllowedRankVector}
use Rattle.sm_check_clauses.specs.Verdicts.{AtLine}
use Rattle.sm_check_clauses.specs.Said.{vector_in, vectors_in}
use Rattle.sm_check_clauses.specs.Vectors.{ListHolds, VectorHolds, ListClauses, places_of_ranks}
use Rattle.sm_cert.specs.Yes.{AreListed, IsBrokenOff, ListYes}
use Rattle.sm_cert.proofs.YesLines.{by_head, grown}

at_end : {X : Type 0} (xs : List X) (y : X) (d : X) → slice_index_or (xs ++ y ∷ []) (length xs) d ≡ y
at_end [] y d = refl
at_end (x ∷ xs) y d = at_end xs y d

before_end : {X : Type 0} (xs : List X) (y : X) (d : X) (k : ℕ) → k < length xs → slice_index_or (xs ++ y ∷ []) k d ≡ slice_index_or xs k d
before_end [] y d k h = absurd (omega arith)
before_end (x ∷ xs) y d zero h = refl
before_end (x ∷ xs) y d (suc k) h = before_end xs y d k (omega arith)

last_at : (x : Option (List ℕ)) (xs : List (List ℕ)) (d : List ℕ) (k : ℕ) → k + 1 ≡ length xs → end_of x xs ≡ Some (slice_index_or xs k d)
last_at x [] d k e = absurd (omega (arith, e))
last_at x (y ∷ []) d k e = let z : k ≡ 0 = omega (arith, e) in ap (λ n. Some (slice_index_or (y ∷ []) n d)) (sym z)
last_at x (y ∷ z ∷ xs) d zero e = absurd (omega (arith, e))
last_at x (y ∷ z ∷ xs) d (suc k) e = last_at (Some y) (z ∷ xs) d k (omega (arith, e))

module _ (w : Written) (after : Option (List ℕ)) (limit : ℕ) where
  abbrev One : List ℕ → Type 0
  One v = IsAllowedRankVector w v

  abbrev Rise : List ℕ → List ℕ → Type 0
  Rise u v = IsBefore (order_of w) u v

  one_more : (vs : List (List ℕ)) (v : List ℕ) → AreListed w after limit vs → ((why : Reason) → VectorHolds w (end_of after vs) (length vs) limit v why) → AreListed w after limit (vs ++ v ∷ [])
  one_more vs v a h = record {
    limited = omega (arith, h reason.OverLimit, count);
    each = λ k b. elim (lt_or_le k (length vs)) [
      | inl less ↦ subst One (sym (before_end vs v [] k less)) (a.each k less)
      | inr more ↦ let e : length vs ≡ k = omega (arith, b, count, more) in subst One (sym (ap (λ n. slice_index_or (vs ++ v ∷ []) n []) (sym e) ∙ at_end vs v [])) (here h)
    ];
    begins = λ b. elim (lt_or_le 0 (length vs)) [
      | inl less ↦ subst (IsBehind (IsBefore (order_of w)) after) (sym (before_end vs v [] 0 less)) (a.begins less)
      | inr more ↦ first vs (omega (arith, more)) (h reason.NotRising)
    ];
    rises = λ k b. elim (lt_or_le (k + 1) (length vs)) [
      | inl less ↦ subst (λ u. Rise u (slice_index_or (vs ++ v ∷ []) (k + 1) [])) (sym (before_end vs v [] k (omega (arith, less)))) (subst (Rise (slice_index_or vs k [])) (sym (before_end vs v [] (k + 1) less)) (a.rises k less))
      | inr more ↦
          let e : k + 1 ≡ length vs = omega (arith, b, count, more) in
          subst (λ u. Rise u (slice_index_or (vs ++ v ∷ []) (k + 1) [])) (sym (before_end vs v [] k (omega (arith, e))))
          (subst (Rise (slice_index_or vs k [])) (sym (ap (λ n. slice_index_or (vs ++ v ∷ []) n []) e ∙ at_end vs v []))
          (subst (λ (o : Option (List ℕ)). IsBehind (IsBefore (order_of w)) o v) (last_at after vs [] k e) (h reason.NotRising)))
    ];
  }
    where
      count : length (vs ++ v ∷ []) ≡ length vs + 1
      count = length-append vs (v ∷ [])

      here : ((why : Reason) → VectorHolds w (end_of after vs) (length vs) limit v why) → One v
      here h = record { places = places_of_ranks w v; stable = h reason.Blocked; allowed = h reason.NotAllowed; vector = sym (h reason.NotAMatching).ranks }

      first : (vs : List (List ℕ)) → length vs ≡ 0 → IsBehind (IsBefore (order_of w)) (end_of after vs) v → IsBehind (IsBefore (order_of w)) after (slice_index_or (vs ++ v ∷ []) 0 [])
      first [] e b = b
      first (u ∷ us) e b = absurd (omega (arith, e))

  abbrev AreNext : List (List ℕ) → List ℕ → Type 0
  AreNext vs v = (why : Reason) → VectorHolds w (end_of after vs) (length vs) limit v why

  none_yet : AreListed w after limit []
  none_yet = record { limited = omega arith; each = λ k h. absurd (omega arith); begins = λ h. absurd (omega arith); rises = λ k h. absurd (omega arith) }

  -- a line with a vector
  of_line : (vs : List (List ℕ)) (x : LineData) → ((why : Reason) → ListHolds w (end_of after vs) (length vs) limit x why) → IfSome (vector_in x) (AreNext vs)
  of_line vs (LineData.Vector v) h = h
  of_line vs _ h = tt

-- the law of a yes on `list`
pub list_yes : ListYes
list_yes w after limit lines g = (grown vector_in (AreListed w after limit) (AreNext w after limit) lines (none_yet w after limit) (one_more w after limit) next_at, broken_off)
  where
    claims : (k : ℕ) (why : Reason) → AtLine (ListClauses w after limit) lines k why
    claims = by_head (λ (ls : List LineData). (k : ℕ) (why : Reason) → AtLine (ListClauses w after limit) ls k why) g (λ rest placed h. h)

    next_at : (k : ℕ) → IfSome (slice_get lines k) (λ line. IfSome (vector_in line) (AreNext w after limit (vectors_in (take k lines))))
    next_at k = go (slice_get lines k) (claims k)
      where
        go : (o : Option LineData) → ((why : Reason) → IfSome o (λ line. ListClauses w after limit (take k lines) line why)) → IfSome o (λ line. IfSome (vector_in line) (AreNext w after limit (vectors_in (take k lines))))
        go None h = tt
        go (Some x) h = of_line w after limit (vectors_in (take k lines)) x h

    broken_off : IsBrokenOff after limit lines
    broken_off k v e = subst (λ (o : Option LineData). IfSome o (λ line. ListClauses w after limit (take k lines) line reason.WrongTail)) e (claims k reason.WrongTail)

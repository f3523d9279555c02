-- A right answer of `list` gets a yes.
use Rattle.std.proofs.Common.{◌≡◌, ℕ, suc, ◌+◌, ◌-◌, ◌<◌, ◌≤◌, ◌&&◌, arith, refl, sym, ap, ◌∙◌, Bool, true, false, List, [], ◌∷◌, ◌++◌, length, map, slice_index, slice_index_or, Option, Some, None, subst, unwrap_or, ext_get_or, length-append, append_assoc, append-nil, eq-eqb, le-leb}
use Rattle.std.specs.Prelude.{nat_le, if◌then◌else◌}
use Rattle.std.specs.List.{list_all, All}
use Rattle.std.proofs.lemmas.Bool.{lt-leb}
use Rattle.std.proofs.lemmas.List.Elements.{filter_map-append}
use Rattle.std.proofs.lemmas.List.FromFn.{get_or-map-range_with_len, length-map-range_with_len}
use Rattle.sm_agents.specs.Written.{Written, row}
use Rattle.sm_instance.specs.Matching.{held, standing, IsAssignment, IsMatching}
use Rattle.sm_instance.specs.Stable.{IsStable}
use Rattle.sm_instance.specs.Allowed.{IsAllowed}
use Rattle.sm_instance.specs.Ranks.{rank_vector_of, IsBefore, order_of}
use Rattle.sm_instance.specs.declared.inputs.Input.TheVariants.{Two}
use Rattle.sm_theory.specs.Listings.{IsBehind, end_of, IsListing}
use Rattle.sm_seats.specs.Vectors.{IsAllowedRankVector}
use Rattle.sm_report.specs.Heads.{HeadData}
use Rattle.sm_report.specs.Lines.{LineData}
use Rattle.sm_report.specs.Sound.{IsLineOf}
use Rattle.sm_answer_list.specs.ListAnswer.{last_line, vector_lines, IsCursor}
use Rattle.sm_answer_list.proofs.ListLemmas.{list_sound}
use Rattle.sm_report.specs.declared.keywords.Keyword.TheVariants as keyword
use Rattle.sm_check_forms.specs.declared.layouts.LayoutPart.TheVariants.{One}
use Rattle.sm_check_forms.proofs.KeywordLayouts.{is_whole, opening_of, is_placed, list_layout}
use Rattle.sm_check_forms.specs.Forms.{fits}
use Rattle.sm_check_clauses.specs.declared.verdicts.Reason.{Reason}
use Rattle.sm_check_clauses.specs.declared.verdicts.Reason.TheVariants as reason
use Rattle.sm_check_clauses.specs.Said.{vector_in, vectors_in}
use Rattle.sm_check_clauses.specs.Vectors.{place_of_rank, places_of_ranks, VectorHolds}
use Rattle.sm_check_clauses.specs.Judging.{answer, Clauses}
use Rattle.sm_check_clauses.proofs.LinewiseLemmas.{AllHold, all_hold, hold_append}
use Rattle.sm_check_answers.proofs.ListingLemmas.{end_of-append}
use Rattle.sm_law_agree.specs.Agree.{GetYes, ListAgrees}
use Rattle.sm_law_agree.proofs.LineLemmas.{Held, pass_append, map_pass, has_word, is_whole-group, is_whole-append_first, is_whole-append_second, yes_of}

-- The places of the ranks of a matching are its own.

module _ (w : Written) (places : List (Option ℕ)) (a : IsAssignment w places) where
  back : (p len : ℕ) (o : Option ℕ) → ((i : ℕ) → o ≡ Some i → i < len) → (if nat_le (unwrap_or o len + 1) len then Some (unwrap_or o len + 1 - 1) else None) ≡ o
  back p len None on = ap (λ t. if t then Some (len + 1 - 1) else None) (lt-leb (len + 1) len (omega arith))
  back p len (Some i) on =
      ap (λ t. if t then Some (i + 1 - 1) else None) (le-leb (i + 1) len (let l = on i refl in omega arith))
      ∙ ap Some (let e : i + 1 - 1 ≡ i = omega arith in e)

  ranked : (p : ℕ) → p < length w.proposers → slice_index (rank_vector_of w places) p ≡ standing w places p + 1
  ranked p l = get_or-map-range_with_len (λ p. standing w places p + 1) 0 (length w.proposers) p p 0 l (omega arith)

  -- the places that the ranks of an assignment name are its own
  pub places_again : places_of_ranks w (rank_vector_of w places) ≡ places
  places_again =
      let v = rank_vector_of w places in
      let long = length-map-range_with_len (place_of_rank w v) 0 (length w.proposers) in
      ext_get_or None (places_of_ranks w v) places (omega (arith, long, a.one_each)) (λ p l.
      let inside : p < length w.proposers = omega (arith, l, long) in
      get_or-map-range_with_len (place_of_rank w v) 0 (length w.proposers) p p None inside (omega arith)
      ∙ ap (λ rank. if nat_le rank (length (row w.proposers p)) then Some (rank - 1) else None) (ranked p inside)
      ∙ back p (length (row w.proposers p)) (held places p) (a.on_lists p))

-- each vector stands behind the one before it, the first behind a cursor
abbrev pub AreRising : Written → Option (List ℕ) → List (List ℕ) → Type 0
AreRising w cursor [] = Unit {0}
AreRising w cursor (v ∷ vs) = IsBehind (IsBefore (order_of w)) cursor v × AreRising w (Some v) vs

-- each vector is of an allowed stable matching
abbrev pub AreAllowed : Written → List (List ℕ) → Type 0
AreAllowed w [] = Unit {0}
AreAllowed w (v ∷ vs) = IsAllowedRankVector w v × AreAllowed w vs

rising : (w : Written) (cursor : Option (List ℕ)) (vs : List (List ℕ)) → (0 < length vs → IsBehind (IsBefore (order_of w)) cursor (slice_index_or vs 0 []))
    → ((k : ℕ) → suc k < length vs → IsBefore (order_of w) (slice_index_or vs k []) (slice_index_or vs (suc k) [])) → AreRising w cursor vs
rising w cursor [] begins rises = tt
rising w cursor (v ∷ vs) begins rises = (begins (omega arith), rising w (Some v) vs (λ l. rises 0 (omega (arith, l))) (λ k l. rises (suc k) (omega (arith, l))))

allowed : (w : Written) (vs : List (List ℕ)) → ((k : ℕ) → k < length vs → IsAllowedRankVector w (slice_index_or vs k [])) → AreAllowed w vs
allowed w [] each = tt
allowed w (v ∷ vs) each = (each 0 (omega arith), allowed w vs (λ k l. each (suc k) (omega (arith, l))))

-- The clauses.

vector_holds : (w : Written) (before : Option (List ℕ)) (count limit : ℕ) (v : List ℕ) → IsAllowedRankVector w v → IsBehind (IsBefore (order_of w)) before v → count < limit
    → (why : Reason) → VectorHolds w before count limit v why
vector_holds w before count limit v one behind few = go
  where
    same : places_of_ranks w v ≡ one.places
    same = ap (places_of_ranks w) one.vector ∙ places_again w one.places one.stable.matching.assigned

    go : (why : Reason) → VectorHolds w before count limit v why
    go reason.NotAMatching = record { matching = subst (IsMatching w) (sym same) one.stable.matching; ranks = ap (rank_vector_of w) same ∙ sym one.vector }
    go reason.Blocked = subst (IsStable w) (sym same) one.stable
    go reason.NotRising = behind
    go reason.NotAllowed = subst (IsAllowed w) (sym same) one.allowed
    go reason.OverLimit = few
    go _ = tt

module _ (w : Written) (after : Option (List ℕ)) (limit : ℕ) where
  abbrev C : List LineData → LineData → Reason → Type 0
  C = Clauses (answer w (HeadData.List after limit))

  abbrev of_vectors : List (List ℕ) → List LineData
  of_vectors vs = map (λ v. LineData.Vector v) vs

  vectors_hold : (vs : List (List ℕ)) (above : List LineData) → AreRising w (end_of after (vectors_in above)) vs → AreAllowed w vs → length (vectors_in above) + length vs ≤ limit
      → Held C (λ now. vectors_in now ≡ vectors_in above ++ vs) above (of_vectors vs)
  vectors_hold [] above rise all few = (tt, ap vectors_in (append-nil above) ∙ sym (append-nil (vectors_in above)))
  vectors_hold (v ∷ vs) above rise all few =
      let more : vectors_in (above ++ LineData.Vector v ∷ []) ≡ vectors_in above ++ v ∷ [] = filter_map-append vector_in above (LineData.Vector v ∷ []) in
      let last : end_of after (vectors_in (above ++ LineData.Vector v ∷ [])) ≡ Some v = ap (end_of after) more ∙ end_of-append after (vectors_in above) (v ∷ []) in
      let long = ap length more ∙ length-append (vectors_in above) (v ∷ []) in
      let rest = vectors_hold vs (above ++ LineData.Vector v ∷ []) (subst (λ o. AreRising w o vs) (sym last) rise.1) all.1 (omega (arith, few, long)) in (
        (
          vector_holds w (end_of after (vectors_in above)) (length (vectors_in above)) limit v all.0 rise.0 (omega (arith, few)),
          rest.0,
        ),
        ap vectors_in (sym (append_assoc above (LineData.Vector v ∷ []) (of_vectors vs))) ∙ rest.1
            ∙ ap (λ us. us ++ vs) more ∙ append_assoc (vectors_in above) (v ∷ []) vs,
      )

  last_holds : (above : List LineData) (o : Option (List ℕ)) (more : Bool) → end_of after (vectors_in above) ≡ o → (more ≡ true → length (vectors_in above) ≡ limit)
      → (why : Reason) → C above (last_line o more) why
  last_holds above None more e cut why = tt
  last_holds above (Some v) false e cut why = tt
  last_holds above (Some v) true e cut reason.WrongTail = (cut refl, e)
  last_holds above (Some v) true e cut _ = tt

  module _ (out : List (List ℕ)) (more : Bool) (listing : IsListing (IsBefore (order_of w)) (IsAllowedRankVector w) after limit out more) where
    abbrev head : LineData
    head = LineData.Answer (HeadData.List after limit)

    abbrev lines : List LineData
    lines = head ∷ vector_lines after out more

    front : Held C (λ now. vectors_in now ≡ out) (head ∷ []) (of_vectors out)
    front =
        vectors_hold out (head ∷ [])
        (rising w after out listing.begins (λ k l. let e : k + 1 ≡ suc k = omega arith in
        subst (λ n. IsBefore (order_of w) (slice_index_or out k []) (slice_index_or out n [])) e (listing.rises k (omega (arith, l)))))
        (allowed w out listing.sound) (let few = listing.limited in omega arith)

    all : AllHold C [] lines
    all = (
      (λ why. tt),
      hold_append C (head ∷ []) (of_vectors out) (last_line (end_of after out) more ∷ []) front.0
          (last_holds (head ∷ of_vectors out) (end_of after out) more (ap (end_of after) front.1) (λ e. ap length front.1 ∙ listing.cut e), tt),
    )

    -- the layouts
    with_end : (o : Option (List ℕ)) (more : Bool) → list_all (has_word keyword.Vector) (of_vectors out) ≡ true
        → is_placed is_whole (Two w) (head ∷ of_vectors out ++ last_line o more ∷ []) ≡ true
    with_end None more e = is_whole-append_first (list_layout keyword.End ∷ []) (list_layout keyword.More ∷ []) (map opening_of (of_vectors out ++ LineData.End ∷ [])) (is_whole-group keyword.Vector (One keyword.End) [] (of_vectors out) (LineData.End ∷ []) e refl refl)
    with_end (Some v) false e = is_whole-append_first (list_layout keyword.End ∷ []) (list_layout keyword.More ∷ []) (map opening_of (of_vectors out ++ LineData.End ∷ [])) (is_whole-group keyword.Vector (One keyword.End) [] (of_vectors out) (LineData.End ∷ []) e refl refl)
    with_end (Some v) true e = is_whole-append_second (list_layout keyword.End ∷ []) (list_layout keyword.More ∷ []) (map opening_of (of_vectors out ++ LineData.More v ∷ [])) (is_whole-group keyword.Vector (One keyword.More) [] (of_vectors out) (LineData.More v ∷ []) e refl refl)

    placed : is_placed is_whole (Two w) lines ≡ true
    placed = with_end (end_of after out) more (map_pass (has_word keyword.Vector) (λ v. LineData.Vector v) out (λ v. refl))

    -- as many numbers as proposers
    module _ (cursor : IsCursor (length w.proposers) after) where
      long : (v : List ℕ) → IsAllowedRankVector w v → length v ≡ length w.proposers
      long v one = ap length one.vector ∙ length-map-range_with_len (λ p. standing w one.places p + 1) 0 (length w.proposers)

      vectors_fit : (vs : List (List ℕ)) → AreAllowed w vs → list_all (fits (Two w)) (of_vectors vs) ≡ true
      vectors_fit [] one = refl
      vectors_fit (v ∷ vs) one = ap (λ t. t && list_all (fits (Two w)) (of_vectors vs)) (eq-eqb (length v) (length w.proposers) (long v one.0)) ∙ vectors_fit vs one.1

      ends_long : (o : Option (List ℕ)) (vs : List (List ℕ)) → IsCursor (length w.proposers) o → AreAllowed w vs → IsCursor (length w.proposers) (end_of o vs)
      ends_long o [] c one = c
      ends_long o (v ∷ vs) c one = ends_long (Some v) vs (long v one.0) one.1

      last_fits : (o : Option (List ℕ)) (more : Bool) → IsCursor (length w.proposers) o → list_all (fits (Two w)) (last_line o more ∷ []) ≡ true
      last_fits None more c = refl
      last_fits (Some v) false c = refl
      last_fits (Some v) true c = ap (λ t. t && true) (eq-eqb (length v) (length w.proposers) c)

      head_fits : (o : Option (List ℕ)) → IsCursor (length w.proposers) o → fits (Two w) (LineData.Answer (HeadData.List o limit)) ≡ true
      head_fits None c = refl
      head_fits (Some v) c = eq-eqb (length v) (length w.proposers) c

      -- the lines of a listing are of their form
      pub fitting : list_all (fits (Two w)) lines ≡ true
      fitting =
          let each = allowed w out listing.sound in
          ap (λ t. t && list_all (fits (Two w)) (vector_lines after out more)) (head_fits after cursor)
          ∙ pass_append (fits (Two w)) (of_vectors out) (last_line (end_of after out) more ∷ []) (vectors_fit out each) (last_fits (end_of after out) more (ends_long after out cursor each))

-- the law for `list`
pub list_agrees : ListAgrees
list_agrees w after limit lines i h a =
    let l = a.listed in
    let x = head w after limit l.out l.more l.listing ∷ vector_lines after l.out l.more in
    subst (GetYes (Two w)) (sym l.shows)
    (yes_of (Two w) x (subst (All (IsLineOf (Two w))) l.shows (list_sound limit i h.0 h.1.0 h.1.1 lines a))
    (fitting w after limit l.out l.more l.listing a.cursor) (placed w after limit l.out l.more l.listing)
    (all_hold (C w after limit) x (all w after limit l.out l.more l.listing)))

-- Writing notes and marks, one after another, and collecting them.
use Rattle.std.proofs.Common.{◌≡◌, ◌≢◌, ℕ, zero, suc, ◌+◌, ◌<◌, ◌≤◌, ◌⊎◌, inl, inr, arith, refl, sym, ap, ◌∙◌, List, [], ◌∷◌, ◌++◌, length, min, Option, None, Some, replicate, set, slice_index_or}
use Rattle.std.specs.List.{Contains}
use Rattle.std.proofs.lemmas.List.{get_or_past, get_or-replicate, get_or-set_same, get_or-set_other, length-replicate, length-set}
use Rattle.std.proofs.lemmas.List.Elements.{Contains-append_left, Contains-append_right, Contains-append_cases}
use Rattle.sm_market.specs.Lists.{Lists, row, entry, place_of, IsMarket}
use Rattle.sm_lists.proofs.Counting.{lt_or_le, eq_or_ne}
use Rattle.sm_market.proofs.PlaceLemmas.{place_of-entry}
use Rattle.sm_lists.proofs.PlaceLemmas.{entry-place_of}
use Rattle.sm_theory.specs.Rotations.{proposer_at, target_at, next_in}
use Rattle.sm_theory.specs.Marks.{note_of, marks_of, mark_at, MovesOver, AreLastMoves, AreMarksFor, AreMarks, AreMarked, IsBetween, IsEntryMarked, IsSpan, IsSpanMarked, Adds}

module _ {l : Lists} (h : IsMarket l) where
  returns_to : (r k : ℕ) → k < length (row l.reviewers r) → let p = entry l.reviewers r k in place_of l.proposers p r < length (row l.proposers p)
  returns_to r k on = h.reviewers.returned r k on

  -- the entries over which one pair moves its reviewer are a span
  over_of_span : (rotation : List (ℕ × ℕ)) (i : ℕ) {better old p x : ℕ} → let r = target_at rotation i in
      better ≡ place_of l.reviewers r (proposer_at rotation i) → old ≡ place_of l.reviewers r (proposer_at rotation (next_in rotation i)) → old ≤ length (row l.reviewers r)
      → IsSpan l r better old p x → MovesOver l rotation (i + 1) p x
  over_of_span rotation i {better} {old} {p} {x} low high fits w =
      let r : ℕ = target_at rotation i in
      let on : w.place < length (row l.reviewers r) = omega (arith, w.before) in
      let rank : place_of l.reviewers r p ≡ w.place = rw w.proposer (place_of-entry h.reviewers r w.place on) in
      let listed : place_of l.proposers p r < length (row l.proposers p) = rw w.proposer (returns_to r w.place on) in
      let is : entry l.proposers p x ≡ r = rw w.at (entry-place_of l.proposers p r listed) in
      record { pair = i; pair_in = omega arith; reviewer = sym is; gains = rw is (omega (arith, rank, w.behind)); loses = rw is (omega (arith, rank, w.before)) }

  span_of_over : (rotation : List (ℕ × ℕ)) {better old p x : ℕ} (i : ℕ) → let r = target_at rotation i in
      better ≡ place_of l.reviewers r (proposer_at rotation i) → old ≡ place_of l.reviewers r (proposer_at rotation (next_in rotation i))
      → x < length (row l.proposers p) → r ≡ entry l.proposers p x
      → place_of l.reviewers (entry l.proposers p x) (proposer_at rotation i) < place_of l.reviewers (entry l.proposers p x) p
      → place_of l.reviewers (entry l.proposers p x) p < place_of l.reviewers (entry l.proposers p x) (proposer_at rotation (next_in rotation i))
      → IsSpan l r better old p x
  span_of_over rotation {better} {old} {p} {x} i low high on is gains loses =
      let r : ℕ = target_at rotation i in
      let gains' : place_of l.reviewers r (proposer_at rotation i) < place_of l.reviewers r p = rw is gains in
      let loses' : place_of l.reviewers r p < place_of l.reviewers r (proposer_at rotation (next_in rotation i)) = rw is loses in
      let listed : place_of l.reviewers r p < length (row l.reviewers r) = rw is (h.proposers.returned p x on) in
      record {
        place = place_of l.reviewers r p;
        behind = omega arith;
        before = omega arith;
        proposer = sym (entry-place_of l.reviewers r p listed);
        at = sym (ap (place_of l.proposers p) is ∙ place_of-entry h.proposers p x on);
      }

  over_wider : {rotation : List (ℕ × ℕ)} {n p x : ℕ} → MovesOver l rotation n p x → MovesOver l rotation (n + 1) p x
  over_wider w = record { pair = w.pair; pair_in = omega (arith, w.pair_in); reviewer = w.reviewer; gains = w.gains; loses = w.loses }

  -- the entries over which one more pair moves its reviewer are marked
  pub marked_more : {rotation : List (ℕ × ℕ)} {i j : ℕ} {before marks after : List (List (Option ℕ))} (better old : ℕ) → let r = target_at rotation i in
      better ≡ place_of l.reviewers r (proposer_at rotation i) → old ≡ place_of l.reviewers r (proposer_at rotation (next_in rotation i)) → old ≤ length (row l.reviewers r)
      → AreMarked l rotation i j before marks → IsSpanMarked l r better old j marks after → AreMarked l rotation (i + 1) j before after
  marked_more {rotation} {i} {j} {before} {marks} {after} better old low high fits m s = record {
    for_entries = s.for_entries;
    marked = λ p x on w. elim (eq_or_ne w.pair i) [
      | inl e ↦ s.marked p x (span_of_over rotation i low high on (rw e at w.reviewer) (rw e at w.gains) (rw e at w.loses))
      | inr e ↦ elim (s.only p x) [
        | inr v ↦ v.0
        | inl same ↦ same ∙ m.marked p x on (record { pair = w.pair; pair_in = omega (arith, w.pair_in); reviewer = w.reviewer; gains = w.gains; loses = w.loses })
      ]
    ];
    only = λ p x. elim (s.only p x) [
      | inr v ↦ inr (v.0, over_of_span rotation i low high fits v.1)
      | inl same ↦ elim (m.only p x) [
        | inl same' ↦ inl (same ∙ same')
        | inr v ↦ inr (same ∙ v.0, over_wider v.1)
      ]
    ];
  }

  -- the same with the pair's reviewer and its two places as they are read
  pub marked_step : {rotation : List (ℕ × ℕ)} {i j : ℕ} {before marks after : List (List (Option ℕ))} (r better old : ℕ) → r ≡ target_at rotation i
      → better ≡ place_of l.reviewers (target_at rotation i) (proposer_at rotation i) → old ≡ place_of l.reviewers (target_at rotation i) (proposer_at rotation (next_in rotation i)) → old ≤ length (row l.reviewers r)
      → AreMarked l rotation i j before marks → IsSpanMarked l r better old j marks after → AreMarked l rotation (i + 1) j before after
  marked_step {rotation} {i} {j} {before} {marks} {after} r better old is low high fits m s =
      let fits' : old ≤ length (row l.reviewers (target_at rotation i)) = rw is at fits in
      let s' : IsSpanMarked l (target_at rotation i) better old j marks after = rw is at s in
      marked_more better old low high fits' m s'

-- collecting
pub adds_none : (P : ℕ → Type 0) (xs : List ℕ) → ((i : ℕ) → P i → ⊥) → Adds P xs xs
adds_none P xs none = record { kept = λ i w. w; added = λ i w. absurd (none i w); only = λ i w. inl w }

-- one number that holds, and no other, is added
pub adds_one : (P : ℕ → Type 0) (xs : List ℕ) (x : ℕ) → P x → ((i : ℕ) → P i → i ≡ x) → Adds P xs (xs ++ x ∷ [])
adds_one P xs x here one = record {
  kept = λ i w. Contains-append_left xs (x ∷ []) i w;
  added = λ i w. rw (one i w) (Contains-append_right xs (x ∷ []) x (0, omega arith, refl));
  only = λ i w. elim (Contains-append_cases xs (x ∷ []) i w) [
    | inl v ↦ inl v
    | inr v ↦ inr (rw (single x i v) here)
  ];
}
  where
    single : (x i : ℕ) → Contains (x ∷ []) i → i ≡ x
    single x i v = go v.0 v.1 v.2
      where
        go : (k : ℕ) → k < 1 → slice_index_or (x ∷ []) k i ≡ i → i ≡ x
        go zero _ e = sym e
        go (suc k) less e = absurd (omega arith)

-- what is added in two steps is what either step adds
pub adds_join : {P Q : ℕ → Type 0} (R : ℕ → Type 0) {xs ys zs : List ℕ} → Adds P xs ys → Adds Q ys zs → ((i : ℕ) → P i → R i) → ((i : ℕ) → Q i → R i) → ((i : ℕ) → R i → P i ⊎ Q i) → Adds R xs zs
adds_join R a b p q back = record {
  kept = λ i w. b.kept i (a.kept i w);
  added = λ i w. elim (back i w) [ inl v ↦ b.kept i (a.added i v) | inr v ↦ b.added i v ];
  only = λ i w. elim (b.only i w) [
    | inr v ↦ inr (q i v)
    | inl v ↦ elim (a.only i v) [ inl u ↦ inl u | inr u ↦ inr (p i u) ]
  ];
}

-- what stands between two places, place by place
pub between_wider : {marks : List (Option ℕ)} {from to i : ℕ} → IsBetween marks from to i → IsBetween marks from (to + 1) i
between_wider w = record { place = w.place; behind = w.behind; before = omega (arith, w.before); marked = w.marked }

-- what stands up to one more place stands before it or there
pub between_split : {marks : List (Option ℕ)} {from to : ℕ} (i : ℕ) → IsBetween marks from (to + 1) i → IsBetween marks from to i ⊎ (note_of marks to ≡ Some i)
between_split {marks} {from} {to} i w = elim (eq_or_ne w.place to) [
  | inl e ↦ inr (rw e at w.marked)
  | inr e ↦ inl (record { place = w.place; behind = w.behind; before = omega (arith, w.before); marked = w.marked })
]

-- the same by other words
pub adds_like : {P Q : ℕ → Type 0} {xs ys : List ℕ} → ((i : ℕ) → P i → Q i) → ((i : ℕ) → Q i → P i) → Adds P xs ys → Adds Q xs ys
adds_like forth back a = record {
  kept = a.kept;
  added = λ i q. a.added i (back i q);
  only = λ i w. elim (a.only i w) [ inl v ↦ inl v | inr v ↦ inr (forth i v) ];
}

-- what is marked up to the end of a row is all that is marked
pub added_to_end : {marks : List (Option ℕ)} {from k to : ℕ} {xs ys : List ℕ} → k ≤ to → min (length marks) to ≤ k → Adds (λ i. IsBetween marks from k i) xs ys → Adds (λ i. IsBetween marks from to i) xs ys
added_to_end {marks} {from} {k} {to} within end a = adds_like
    (λ i w. record { place = w.place; behind = w.behind; before = omega (arith, w.before); marked = w.marked })
    (λ i w. elim (lt_or_le w.place k) [
      | inl less ↦ record { place = w.place; behind = w.behind; before = less; marked = w.marked }
      | inr more ↦
          let none : note_of marks w.place ≡ None = get_or_past marks w.place None (omega (arith, w.before)) in
          let some : note_of marks w.place ≡ Some i = w.marked in absurd cc
    ])
    a

-- nothing noted and nothing marked
pub last_start : (rotations : List (List (ℕ × ℕ))) (notes : List (Option ℕ)) → ((p : ℕ) → note_of notes p ≡ None) → AreLastMoves rotations 0 notes
last_start rotations notes none = record {
  below = λ p i e. let n = none p in absurd cc;
  moves = λ p i e. let n = none p in absurd cc;
  last = λ p i k e less below w. omega arith;
  noted = λ p i below w. absurd (omega arith);
}

-- where nothing is marked, the marks are those of no rotations
pub marks_start : {l : Lists} {rotations : List (List (ℕ × ℕ))} {marks : List (List (Option ℕ))} → AreMarksFor l marks → ((p x : ℕ) → mark_at marks p x ≡ None) → AreMarks l rotations 0 marks
marks_start f none = record {
  for_entries = f;
  below = λ p x i e. let n = none p x in absurd cc;
  moves = λ p x i e. let n = none p x in absurd cc;
  all = λ p x i on below w. absurd (omega arith);
}

-- in a fresh list nothing is noted
pub note_of-replicate : (n p : ℕ) → note_of (replicate n None) p ≡ None
note_of-replicate n p = elim (lt_or_le p n) [
  | inl h ↦ get_or-replicate n p None None h
  | inr h ↦ get_or_past (replicate n None) p None (omega (arith, length-replicate {A = Option ℕ} n None))
]

-- where all rows are empty, nothing is marked
pub none_marked : {marks : List (List (Option ℕ))} (n p x : ℕ) → marks ≡ replicate n [] → mark_at marks p x ≡ None
none_marked {marks} n p x e = ap (λ (row : List (Option ℕ)). note_of row x) (ap (λ (rows : List (List (Option ℕ))). marks_of rows p) e ∙ empty)
  where
    empty : marks_of (replicate n []) p ≡ []
    empty = elim (lt_or_le p n) [
      | inl h ↦ get_or-replicate n p [] [] h
      | inr h ↦ get_or_past (replicate n []) p [] (omega (arith, length-replicate {A = List (Option ℕ)} n []))
    ]

-- a row has the marks of p's row, and one for each entry of p's list
pub record IsRowFor (l : Lists) (p : ℕ) (marks : List (List (Option ℕ))) (made : List (Option ℕ)) : Type 0 where
  pub as_long : length made ≡ length (row l.proposers p)
  pub same : (x : ℕ) → note_of made x ≡ note_of (marks_of marks p) x

-- so does one that was made with no mark, where there was none
pub row_for_made : {l : Lists} {p : ℕ} {marks : List (List (Option ℕ))} {made : List (Option ℕ)} → marks_of marks p ≡ [] → made ≡ replicate (length (row l.proposers p)) None → IsRowFor l p marks made
row_for_made {l} {p} {marks} {made} empty is = record {
  as_long = ap length is ∙ length-replicate (length (row l.proposers p)) None;
  same = λ x. rw (empty, is) (note_of-replicate (length (row l.proposers p)) x);
}

-- and p's row itself, where it has any
pub row_for_old : {l : Lists} {p : ℕ} {marks : List (List (Option ℕ))} {made : List (Option ℕ)} → AreMarksFor l marks → marks_of marks p ≡ made → 0 < length made → IsRowFor l p marks made
row_for_old {p = p} {marks} f is some = record {
  as_long = rw is at (f.as_long p (rw is some));
  same = λ x. rw is refl;
}

-- such a row comes in the place of p's row with one mark more
pub entry_marked : {l : Lists} {p x : ℕ} {mark : Option ℕ} {marks : List (List (Option ℕ))} {made : List (Option ℕ)} → p < length l.proposers → x < length (row l.proposers p) → AreMarksFor l marks → IsRowFor l p marks made
    → IsEntryMarked l p x mark marks (set marks p (set made x mark))
entry_marked {l} {p} {x} {mark} {marks} {made} in_range on_list f new = record {
  for_entries = record {
    one_each = length-set marks p (set made x mark) ∙ f.one_each;
    as_long = λ q some. elim (eq_or_ne q p) [
      | inl e ↦ rw (e, here) (length-set made x mark ∙ new.as_long)
      | inr ne ↦ rw (there q ne) (f.as_long q (rw (there q ne) at some))
    ];
  };
  marked = rw here (get_or-set_same made x mark None (omega (arith, new.as_long)));
  only = λ q y. elim (eq_or_ne q p) [
    | inr ne ↦ inl (ap (λ (row : List (Option ℕ)). note_of row y) (there q ne))
    | inl e ↦ elim (eq_or_ne y x) [
      | inl e' ↦ inr (e, e')
      | inr ne ↦ inl (rw (e, here) (get_or-set_other made x y mark None ne ∙ new.same y))
    ]
  ];
}
  where
    here : marks_of (set marks p (set made x mark)) p ≡ set made x mark
    here = get_or-set_same marks p (set made x mark) [] (omega (arith, f.one_each))

    there : (q : ℕ) → q ≢ p → marks_of (set marks p (set made x mark)) q ≡ marks_of marks q
    there q ne = get_or-set_other marks p q (set made x mark) [] ne

-- the entries of a span up to one more place of r's list are marked
pub span_more : {l : Lists} {r better k j p x : ℕ} {before marks after : List (List (Option ℕ))} → better < k → p ≡ entry l.reviewers r k → x ≡ place_of l.proposers (entry l.reviewers r k) r
    → IsSpanMarked l r better k j before marks → IsEntryMarked l p x (Some j) marks after → IsSpanMarked l r better (k + 1) j before after
span_more {l} {r} {better} {k} {j} {p} {x} {before} {marks} {after} low named at s e = record {
  for_entries = e.for_entries;
  marked = λ q y w. elim (e.only q y) [
    | inr same ↦ rw (same.0, same.1) e.marked
    | inl same ↦ elim (eq_or_ne w.place k) [
      | inl is ↦ rw (w.proposer, w.at, w.proposer, is, ← at, ← named) e.marked
      | inr ne ↦ same ∙ s.marked q y (record { place = w.place; behind = w.behind; before = omega (arith, w.before); proposer = w.proposer; at = w.at })
    ]
  ];
  only = λ q y. elim (e.only q y) [
    | inr same ↦ inr (rw (same.0, same.1) e.marked, record { place = k; behind = low; before = omega arith; proposer = same.0 ∙ named; at = rw (same.0, named) (same.1 ∙ at) })
    | inl same ↦ elim (s.only q y) [
      | inl same' ↦ inl (same ∙ same')
      | inr w ↦ inr (same ∙ w.0, record { place = w.1.place; behind = w.1.behind; before = omega (arith, w.1.before); proposer = w.1.proposer; at = w.1.at })
    ]
  ];
}

-- What a heap of rotations has after a push, after a pop, and once needs are met.
use Rattle.std.proofs.Common.{◌≡◌, ◌≢◌, ℕ, ◌+◌, ◌<◌, ◌≤◌, inl, inr, arith, refl, sym, ◌∙◌, List, [], ◌∷◌, length, set, take, cond, false, slice_index_or, All}
use Rattle.std.specs.Bool.{nat_eq}
use Rattle.std.specs.BinaryHeap.{IsUpperBound}
use Rattle.std.specs.List.Sorted.{IsPermutation}
use Rattle.std.specs.Ordering.{is_lt, ordering_then}
use Rattle.std.specs.declared.cmp.Ordering.{Ordering}
use Rattle.std.specs.declared.cmp.Ordering.TheVariants.{Less, Equal, Greater}
use Rattle.std.specs.declared.cmp.Reverse.{Reverse}
use Rattle.std.proofs.HeapSift.{at_most}
use Rattle.std.proofs.lemmas.Bool.{eq-eqb, ne_eqb}
use Rattle.std.proofs.lemmas.List.{get_or-set_same, get_or-set_other}
use Rattle.std.proofs.lemmas.List.Elements.{All-nil, All-cons, All-tail, All-head}
use Rattle.std.proofs.lemmas.List.Sorted.{All-permutation, sum_by_pushed, sum_by_popped}
use Rattle.sm_lists.proofs.Counting.{eq_or_ne}
use Rattle.sm_rotations.specs.Graph.{times}
use Rattle.sm_rotations.specs.Ordering.{later_first, times_ready, IsHeapEntry, IsOneMore, IsReleased, AreReadyAtFirst}
use Rattle.sm_rotations.proofs.TimesLemmas.{num_true, num_false, times_more, times_same, times_part}

-- of a heap in order the first has the lowest proposer
not_before : (a b : Ordering) → is_lt (ordering_then a b) ≡ false → is_lt a ≡ false
not_before Less b e = e
not_before Equal b e = refl
not_before Greater b e = refl

-- no other item has a lower proposer
pub least_of_heap : (x : Reverse (ℕ × ℕ)) (xs : List (Reverse (ℕ × ℕ))) → IsUpperBound later_first x xs → All (λ y. x.0.0 ≤ y.0.0) xs
least_of_heap x [] h = All-nil (λ y. x.0.0 ≤ y.0.0)
least_of_heap x (y ∷ ys) h = All-cons (λ y. x.0.0 ≤ y.0.0) y ys (at_most y.0.0 x.0.0 (not_before _ _ h.0)) (least_of_heap x ys h.1)

-- a rotation comes in
module _ (x : Reverse (ℕ × ℕ)) (xs ys : List (Reverse (ℕ × ℕ))) (p : IsPermutation (x ∷ xs) ys) where
  -- it stands there once more
  pub one_pushed : times_ready ys x.0.1 ≡ times_ready xs x.0.1 + 1
  one_pushed =
      omega (arith, num_true (nat_eq x.0.1 x.0.1) (eq-eqb x.0.1 x.0.1 refl), sum_by_pushed (λ z. cond (nat_eq z.0.1 x.0.1) 1 0) x xs ys p)

  -- each other stands there as often as before
  pub others_pushed : (j : ℕ) → x.0.1 ≢ j → times_ready ys j ≡ times_ready xs j
  others_pushed j ne =
      omega (arith, num_false (nat_eq x.0.1 j) (ne_eqb x.0.1 j ne), sum_by_pushed (λ z. cond (nat_eq z.0.1 j) 1 0) x xs ys p)

  -- so the heap has it once more
  pub one_more : IsOneMore x.0.0 x.0.1 xs ys
  one_more = record {
    others = λ j ne. others_pushed j (λ e. ne (sym e));
    this = one_pushed;
    entries = λ rotations g lead all. All-permutation (IsHeapEntry rotations) (x ∷ xs) ys p (All-cons (IsHeapEntry rotations) x xs (g, lead) all);
  }

-- a rotation goes out
module _ (x : Reverse (ℕ × ℕ)) (xs ys : List (Reverse (ℕ × ℕ))) (p : IsPermutation xs (x ∷ ys)) where
  -- it stands there once less
  pub one_popped : times_ready ys x.0.1 + 1 ≡ times_ready xs x.0.1
  one_popped =
      omega (arith, num_true (nat_eq x.0.1 x.0.1) (eq-eqb x.0.1 x.0.1 refl), sum_by_popped (λ z. cond (nat_eq z.0.1 x.0.1) 1 0) x xs ys p)

  -- each other stands there as often as before
  pub others_popped : (j : ℕ) → j ≢ x.0.1 → times_ready ys j ≡ times_ready xs j
  others_popped j ne =
      omega (arith, num_false (nat_eq x.0.1 j) (ne_eqb x.0.1 j (λ e. ne (sym e))), sum_by_popped (λ z. cond (nat_eq z.0.1 j) 1 0) x xs ys p)

  -- what goes out is a rotation with its lowest-numbered proposer
  pub entry_popped : (rotations : List (List (ℕ × ℕ))) → All (IsHeapEntry rotations) xs → IsHeapEntry rotations x
  entry_popped rotations all = All-head (IsHeapEntry rotations) x ys (All-permutation (IsHeapEntry rotations) xs (x ∷ ys) p all)

  -- and so is each that stays
  pub entries_popped : (rotations : List (List (ℕ × ℕ))) → All (IsHeapEntry rotations) xs → All (IsHeapEntry rotations) ys
  entries_popped rotations all = All-tail (IsHeapEntry rotations) x ys (All-permutation (IsHeapEntry rotations) xs (x ∷ ys) p all)

-- the heap at first, rotation after rotation
module _ {leads : List ℕ} {unmet : List ℕ} where
  -- a rotation that needs no other comes in
  pub first_more : {k : ℕ} {ready after : List (Reverse (ℕ × ℕ))} → k < length leads → slice_index_or unmet k 0 ≡ 0 → AreReadyAtFirst leads unmet k ready → IsOneMore (slice_index_or leads k 0) k ready after
      → AreReadyAtFirst leads unmet (k + 1) after
  first_more {k} {ready} {after} g none r o = record {
    entries = λ rotations a. let inside : k < length rotations = omega (arith, a.one_each) in o.entries rotations inside (a.each k inside) (r.entries rotations a);
    once = λ j a e. elim (eq_or_ne j k) [
      | inl is ↦ rw is (omega (arith, o.this, r.later k (omega arith)))
      | inr ne ↦ omega (arith, o.others j ne, r.once j (omega arith) e)
    ];
    waiting = λ j a e. elim (eq_or_ne j k) [
      | inl is ↦ absurd (e (rw is none))
      | inr ne ↦ omega (arith, o.others j ne, r.waiting j (omega arith) e)
    ];
    later = λ j a. omega (arith, o.others j (omega arith), r.later j (omega arith));
  }

  -- one that needs others is passed over
  pub first_past : {k : ℕ} {ready : List (Reverse (ℕ × ℕ))} → slice_index_or unmet k 0 ≢ 0 → AreReadyAtFirst leads unmet k ready → AreReadyAtFirst leads unmet (k + 1) ready
  first_past {k} {ready} some r = record {
    entries = r.entries;
    once = λ j a e. elim (eq_or_ne j k) [
      | inl is ↦ absurd (some (rw is at e))
      | inr ne ↦ r.once j (omega arith) e
    ];
    waiting = λ j a e. elim (eq_or_ne j k) [
      | inl is ↦ rw is (r.later k (omega arith))
      | inr ne ↦ r.waiting j (omega arith) e
    ];
    later = λ j a. r.later j (omega arith);
  }

-- needs are met, one after another
module _ {leads : List ℕ} (followers : List ℕ) (before : List ℕ) (ready_before : List (Reverse (ℕ × ℕ))) where
  module _ {e j : ℕ} {unmet : List ℕ} {ready : List (Reverse (ℕ × ℕ))} (inside : e < length followers) (is : slice_index_or followers e 0 ≡ j) (within : j < length unmet)
      (r : IsReleased leads (take e followers) before ready_before unmet ready) (enough : times followers j ≤ slice_index_or before j 0) where
    -- a follower has an unmet need
    pub some_unmet : 0 < slice_index_or unmet j 0
    some_unmet = omega (arith, r.counts j, times_more followers e j inside is, times_part followers (e + 1) j)

    here : (n : ℕ) → slice_index_or (set unmet j n) j 0 ≡ n
    here n = get_or-set_same unmet j n 0 within

    elsewhere : (n i : ℕ) → i ≢ j → slice_index_or (set unmet j n) i 0 ≡ slice_index_or unmet i 0
    elsewhere n i ne = get_or-set_other unmet j i n 0 ne

    counts_on : (n : ℕ) → n + 1 ≡ slice_index_or unmet j 0 → (i : ℕ) → slice_index_or (set unmet j n) i 0 + times (take (e + 1) followers) i ≡ slice_index_or before i 0
    counts_on n less i = elim (eq_or_ne i j) [
      | inl same ↦ rw same (omega (arith, here n, r.counts j, times_more followers e j inside is))
      | inr ne ↦ omega (arith, elsewhere n i ne, r.counts i, times_same followers e i inside (λ f. ne (sym f ∙ is)))
    ]

    -- one need of a follower is met, and others are left
    pub release_kept : (n : ℕ) → n + 1 ≡ slice_index_or unmet j 0 → slice_index_or (set unmet j n) j 0 ≢ 0 → IsReleased leads (take (e + 1) followers) before ready_before (set unmet j n) ready
    release_kept n less ne = record {
      counts = counts_on n less;
      fallen = λ i. elim (eq_or_ne i j) [
        | inl same ↦ rw same (record {
          fallen = λ some none. absurd (ne none);
          same = λ _. (r.fallen j).same (inr (omega arith));
        })
        | inr other ↦ rw (elsewhere n i other) (r.fallen i)
      ];
      entries = r.entries;
    }

    -- the last need of a follower is met, and it comes into the heap
    pub release_fallen : (n : ℕ) {after : List (Reverse (ℕ × ℕ))} → n + 1 ≡ slice_index_or unmet j 0 → slice_index_or (set unmet j n) j 0 ≡ 0 → j < length leads → IsOneMore (slice_index_or leads j 0) j ready after
        → IsReleased leads (take (e + 1) followers) before ready_before (set unmet j n) after
    release_fallen n {after} less none g o = record {
      counts = counts_on n less;
      fallen = λ i. elim (eq_or_ne i j) [
        | inl same ↦ rw same (record {
          fallen = λ some none. omega (arith, o.this, (r.fallen j).same (inr (omega arith)));
          same = λ d. absurd (elim d [ inl x ↦ omega (arith, r.counts j) | inr x ↦ omega (arith, none) ]);
        })
        | inr other ↦ rw (elsewhere n i other, o.others i other) (r.fallen i)
      ];
      entries = λ rotations a all. let inside : j < length rotations = omega (arith, a.one_each) in o.entries rotations inside (a.each j inside) (r.entries rotations a all);
    }

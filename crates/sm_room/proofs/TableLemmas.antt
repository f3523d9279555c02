-- From tables of lists to bounds, and back.
use Rattle.std.proofs.Common.{◌≡◌, ℕ, ◌-◌, ◌<◌, ◌≤◌, ◌⊎◌, inl, inr, arith, refl, sym, ap, ◌∙◌, List, length}
use Rattle.sm_lists.specs.Rows.{row, entry, place_of}
use Rattle.sm_lists.proofs.Counting.{Decided-lt, lt_or_le, eq_or_ne}
use Rattle.sm_lists.proofs.PlaceLemmas.{entry-place_of}
use Rattle.sm_lists.proofs.PlaceLemmas.{place_on-lt}
use Rattle.sm_theory.specs.Partitions.{successor_in, IsStablePartition}
use Rattle.sm_room.specs.Bounds.{IsLeft, IsFirst, IsLast, HasLast, IsGoodAt}
use Rattle.sm_room.specs.Tables.{IsIn, StandsFirst, StandsLast, PrefersLast, IsGood, ListsLeft, AreBoundsOf, GoesFirst}
use Rattle.sm_room.proofs.TableCore.{IsLeft-turn, turn}
use Rattle.sm_room.proofs.EndCore.{partition_at_end}

module _ {rows : List (List ℕ)} {b : ℕ → ℕ} {table : List (List ℕ)} (h : ListsLeft rows b table) where
  -- who stands first on a list of the table is the first that is left
  pub first_is : {x y : ℕ} → StandsFirst table x y → IsFirst rows b x y
  first_is {x} {y} f = rw f.is at here
    where
      here : IsFirst rows b x (entry table x 0)
      here = record {
        left = h.left x 0 f.some;
        least = λ z i.
            let k = h.all x z i in
            let e = entry-place_of table x z k in
            elim (eq_or_ne (place_of table x z) 0) [
              | inl d ↦ let at : entry table x 0 ≡ z = sym (ap (entry table x) d) ∙ e in rw at (omega arith)
              | inr d ↦ let l = h.ordered x 0 (place_of table x z) (omega (arith, d)) k in let m : place_of rows x (entry table x 0) < place_of rows x z = rw e at l in omega (arith, m)
            ];
      }

  -- and the first that is left stands first
  pub stands_first : {x y : ℕ} → IsFirst rows b x y → StandsFirst table x y
  stands_first {x} {y} f =
      let k = h.all x y f.left in
      let e = entry-place_of table x y k in
      let some : 0 < length (row table x) = omega (arith, k) in
      elim (eq_or_ne (place_of table x y) 0) [
        | inl d ↦ record { some = some; is = sym (ap (entry table x) d) ∙ e }
        | inr d ↦
            let l = h.ordered x 0 (place_of table x y) (omega (arith, d)) k in
            let m : place_of rows x (entry table x 0) < place_of rows x y = rw e at l in
            absurd (omega (arith, m, f.least (entry table x 0) (h.left x 0 some)))
      ]

  -- no entry stands behind the last
  up_to_last : (x y : ℕ) → IsIn table x y → place_of rows x y ≤ place_of rows x (entry table x (length (row table x) - 1))
  up_to_last x y k =
      let e = entry-place_of table x y k in
      elim (eq_or_ne (place_of table x y) (length (row table x) - 1)) [
        | inl d ↦ let at : y ≡ entry table x (length (row table x) - 1) = sym e ∙ ap (entry table x) d in rw at (omega arith)
        | inr d ↦
            let l = h.ordered x (place_of table x y) (length (row table x) - 1) (omega (arith, d, k)) (omega (arith, k)) in
            let m : place_of rows x y < place_of rows x (entry table x (length (row table x) - 1)) = rw e at l in
            omega (arith, m)
      ]

  module _ (tight : (x : ℕ) → 0 < length (row table x) → place_of rows x (entry table x (length (row table x) - 1)) ≡ b x) where
    -- who stands last on a list of the table is at its bound
    pub last_is : {x y : ℕ} → StandsLast table x y → IsLast rows b x y
    last_is {x} {y} f =
        let here : IsLast rows b x (entry table x (length (row table x) - 1)) = record { left = h.left x (length (row table x) - 1) (omega (arith, f.some)); at = tight x f.some } in
        rw f.is at here

    -- and who is at its bound stands last
    pub stands_last : {x y : ℕ} → IsLast rows b x y → StandsLast table x y
    stands_last {x} {y} f =
        let k = h.all x y f.left in
        let e = entry-place_of table x y k in
        let some : 0 < length (row table x) = omega (arith, k) in
        elim (eq_or_ne (place_of table x y) (length (row table x) - 1)) [
          | inl d ↦ record { some = some; is = sym (ap (entry table x) d) ∙ e }
          | inr d ↦
              let l = h.ordered x (place_of table x y) (length (row table x) - 1) (omega (arith, d, k)) (omega (arith, k)) in
              let m : place_of rows x y < place_of rows x (entry table x (length (row table x) - 1)) = rw e at l in
              absurd (omega (arith, m, tight x some, f.at))
        ]

-- what bounds leave of a good table is a good table
module _ {rows : List (List ℕ)} {b : ℕ → ℕ} {table : List (List ℕ)} (good : IsGoodAt rows b) (h : ListsLeft rows b table) where
  -- the last of each list stands at its bound
  pub bounds_tight : (x : ℕ) → 0 < length (row table x) → place_of rows x (entry table x (length (row table x) - 1)) ≡ b x
  bounds_tight x some =
      let i = h.left x (length (row table x) - 1) (omega (arith, some)) in
      let l = good.ends x _ i in
      let up = up_to_last h x l.last (h.all x l.last l.final.left) in
      omega (arith, up, l.final.at, i.here)

  prefers_last : (x y : ℕ) → HasLast rows b x → b x < place_of rows x y → PrefersLast rows table x y
  prefers_last x y l less =
      let some : 0 < length (row table x) = let k = h.all x l.last l.final.left in omega (arith, k) in
      record { some = some; better = omega (arith, bounds_tight x some, less) }

  -- so the table is good
  pub table_of_bounds : IsGood rows table
  table_of_bounds = record {
    whole = record {
      one_each = h.one_each;
      acceptable = λ x i on. (h.left x i on).acc;
      ordered = h.ordered;
      symmetric = λ x y k.
          let i : IsLeft rows b x y = rw (entry-place_of table x y k) at (h.left x (place_of table x y) k) in
          h.all y x (IsLeft-turn i);
    };
    first_last = λ x y f. stands_last h bounds_tight (good.first_last x y (first_is h f));
    last_first = λ x y f. stands_first h (good.last_first x y (last_is h bounds_tight f));
    missing = λ x y acc out. elim (lt_or_le (b x) (place_of rows x y)) [
      | inl l ↦ inl (prefers_last x y (good.past x y acc l) l)
      | inr l ↦ elim (lt_or_le (b y) (place_of rows y x)) [
        | inl k ↦ inr (prefers_last y x (good.past y x (turn rows x y acc) k) k)
        | inr k ↦ absurd (out (h.all x y (record { acc = acc; here = l; there = k })))
      ]
    ];
  }

-- a good table is what is left behind the places of its last
module _ {rows : List (List ℕ)} {b : ℕ → ℕ} {table : List (List ℕ)} (good : IsGood rows table) (bounds : AreBoundsOf rows table b) where
  below_bound : (x y : ℕ) → IsIn table x y → place_of rows x y ≤ b x
  below_bound x y k =
      let some : 0 < length (row table x) = omega (arith, k) in
      let e = entry-place_of table x y k in
      let last = bounds.last x some in
      elim (eq_or_ne (place_of table x y) (length (row table x) - 1)) [
        | inl d ↦ let at : y ≡ entry table x (length (row table x) - 1) = sym e ∙ ap (entry table x) d in let f : place_of rows x y ≡ b x = ap (place_of rows x) at ∙ sym last in omega (arith, f)
        | inr d ↦
            let l = good.whole.ordered x (place_of table x y) (length (row table x) - 1) (omega (arith, d, k)) (omega (arith, k)) in
            let m : place_of rows x y < place_of rows x (entry table x (length (row table x) - 1)) = rw e at l in
            omega (arith, m, last)
      ]

  prefers_not : (x y : ℕ) → place_of rows x y ≤ b x → PrefersLast rows table x y → ⊥
  prefers_not x y le w = omega (arith, le, w.better, bounds.last x w.some)

  -- the table has the lists of all who are left
  pub lists_left : ListsLeft rows b table
  lists_left = record {
    one_each = good.whole.one_each;
    left = λ x i on.
        let k = place_on-lt (row table x) (entry table x i) i on refl in
        record { acc = good.whole.acceptable x i on; here = below_bound x _ k; there = below_bound _ x (good.whole.symmetric x _ k) };
    all = λ x y i. elim (Decided-lt (place_of table x y) (length (row table x))) [
      | inl k ↦ k
      | inr k ↦ elim (good.missing x y i.acc k) [
        | inl w ↦ absurd (prefers_not x y i.here w)
        | inr w ↦ absurd (prefers_not y x i.there w)
      ]
    ];
    ordered = good.whole.ordered;
  }

  tight : (x : ℕ) → 0 < length (row table x) → place_of rows x (entry table x (length (row table x) - 1)) ≡ b x
  tight x some = sym (bounds.last x some)

  has_last : (x : ℕ) → 0 < length (row table x) → HasLast rows b x
  has_last x some = record { last = _; final = last_is lists_left tight (record { some = some; is = refl }) }

  -- and its bounds are those of a good table
  pub bounds_of_table : IsGoodAt rows b
  bounds_of_table = record {
    ends = λ x y i. has_last x (let k = lists_left.all x y i in omega (arith, k));
    past = λ x y acc behind. elim (lt_or_le 0 (length (row table x))) [
      | inl some ↦ has_last x some
      | inr none ↦ absurd (omega (arith, bounds.empty x (omega (arith, none)), acc.listed, behind))
    ];
    first_last = λ x y f. last_is lists_left tight (good.first_last x y (stands_first lists_left f));
    last_first = λ x y f. first_is lists_left (good.last_first x y (stands_last lists_left tight f));
  }

-- the bounds of a table
choose_bound : (rows table : List (List ℕ)) (x : ℕ) → (0 < length (row table x)) ⊎ (length (row table x) ≤ 0) → ℕ
choose_bound rows table x (inl _) = place_of rows x (entry table x (length (row table x) - 1))
choose_bound rows table x (inr _) = length (row rows x)

bound_of : List (List ℕ) → List (List ℕ) → ℕ → ℕ
bound_of rows table x = choose_bound rows table x (lt_or_le 0 (length (row table x)))

are_bounds : (rows table : List (List ℕ)) → AreBoundsOf rows table (bound_of rows table)
unfolding bound_of choose_bound
are_bounds rows table = record { empty = λ x e. empty x e (lt_or_le 0 (length (row table x))); last = λ x some. last x some (lt_or_le 0 (length (row table x))) }
  where
    empty : (x : ℕ) → length (row table x) ≡ 0 → (d : (0 < length (row table x)) ⊎ (length (row table x) ≤ 0)) → choose_bound rows table x d ≡ length (row rows x)
    empty x e (inl l) = absurd (omega arith)
    empty x e (inr l) = refl

    last : (x : ℕ) → 0 < length (row table x) → (d : (0 < length (row table x)) ⊎ (length (row table x) ≤ 0)) → choose_bound rows table x d ≡ place_of rows x (entry table x (length (row table x) - 1))
    last x some (inl l) = refl
    last x some (inr l) = absurd (omega arith)

-- where no list of a good table is longer than two, the firsts are the successors of a stable partition
pub end_is_stable : (rows table : List (List ℕ)) (next : List ℕ) → IsGood rows table → ((x : ℕ) → length (row table x) ≤ 2)
    → length next ≡ length rows → ((x : ℕ) → x < length rows → GoesFirst table next x) → IsStablePartition rows next
end_is_stable rows table next good short size goes = partition_at_end rows b next (bounds_of_table good bounds) size to two
  where
    b : ℕ → ℕ
    b = bound_of rows table

    bounds : AreBoundsOf rows table b
    bounds = are_bounds rows table

    lists : ListsLeft rows b table
    lists = lists_left good bounds

    to : (x : ℕ) → x < length rows → IsFirst rows b x (successor_in next x) ⊎ ((successor_in next x ≡ x) × ((y : ℕ) → IsLeft rows b x y → ⊥))
    to x h = elim (goes x h) [
      | inl f ↦ inl (first_is lists f)
      | inr w ↦ inr (w.1, λ y i. let k = lists.all x y i in omega (arith, k, w.0))
    ]

    two : (x y : ℕ) → IsLeft rows b x y → IsFirst rows b x y ⊎ IsLast rows b x y
    two x y i =
        let k = lists.all x y i in
        let e = entry-place_of table x y k in
        let some : 0 < length (row table x) = omega (arith, k) in
        elim (eq_or_ne (place_of table x y) 0) [
          | inl d ↦ inl (first_is lists (record { some = some; is = sym (ap (entry table x) d) ∙ e }))
          | inr d ↦
              let f : place_of table x y ≡ length (row table x) - 1 = omega (arith, k, d, short x) in
              inr (last_is lists (λ z s. sym (bounds.last z s)) (record { some = some; is = sym (ap (entry table x) f) ∙ e }))
        ]

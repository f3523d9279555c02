-- The walk of phase two.
use Rattle.std.proofs.Common.{◌≡◌, ◌≢◌, ℕ, zero, suc, ◌+◌, ◌-◌, ◌<◌, ◌≤◌, ◌++◌, ◌∷◌, [], inl, inr, arith, refl, sym, ap, ◌∙◌, List, length, get_or, set, replicate, take}
use Rattle.std.proofs.lemmas.List.{get_or_append_left, get_or_push, length_push, get_or-set_same, get_or-set_other, length-set, get_or-replicate, length-replicate, get_or_past, get_or-take, length-take-le}
use Rattle.std.proofs.lemmas.Grind.{get_or_default_zero}
use Rattle.std.proofs.lemmas.List.Sums.{sum_by-set}
use Rattle.std.specs.List.{sum_by}
use Rattle.sm_lists.specs.Rows.{entry, place_of}
use Rattle.sm_lists.proofs.Counting.{lt_or_le, pigeonhole}
use Rattle.sm_lists.proofs.ItemLemmas.{push_cases, set_cases}
use Rattle.sm_room.specs.Bounds.{IsLast, IsSecond, IsNextPerson, IsGoodAt, bound_in}
use Rattle.sm_room.specs.Rotating.{IsSecondPlace, HasTwoLeft, met, IsPathKept, IsCycleWalk, IsClosedWalk, IsOwnParty, AreUnmarked}
use Rattle.sm_room.proofs.TableCore.{one_final, one_second}
use Rattle.sm_room.proofs.PhaseTwoCore.{follows}

-- how many persons the walk hasn't met
pub one_where_zero : ℕ → ℕ
one_where_zero zero = 1
one_where_zero (suc i) = 0

-- how many persons have no mark
abbrev pub unmarked : List ℕ → ℕ
unmarked marks = sum_by one_where_zero marks

is_one : (i : ℕ) → i ≡ 0 → one_where_zero i ≡ 1
unfolding one_where_zero
is_one i e = rw e refl

is_zero : (i : ℕ) → 0 < i → one_where_zero i ≡ 0
unfolding one_where_zero
is_zero zero h = absurd (omega arith)
is_zero (suc i) h = refl

-- one more mark leaves fewer without
pub unmarked_falls : (marks : List ℕ) (x i : ℕ) → x < length marks → get_or marks x 0 ≡ 0 → 0 < i → unmarked (set marks x i) < unmarked marks
unmarked_falls marks x i there e h =
    let w = sum_by-set one_where_zero marks x i 0 there in
    omega (arith, w, is_one (get_or marks x 0) e, is_zero i h)

-- all is 0 at the start
pub zero_marks : (n z : ℕ) (marks : List ℕ) → marks ≡ replicate n 0 → get_or marks z 0 ≡ 0
zero_marks n z marks e =
    let o : ℕ = 0 in
    rw e (elim (lt_or_le z n) [
      | inl l ↦ get_or-replicate n z o o l
      | inr l ↦ get_or_past (replicate n o) z o (omega (arith, l, length-replicate n o))
    ])

-- an empty path is a walk to any person
pub walk_begins : {rows : List (List ℕ)} {bounds : List ℕ} {x : ℕ} (path places : List ℕ) → path ≡ [] → x < length rows → IsCycleWalk rows bounds path places x
walk_begins {rows} {bounds} {x} path places p there = rw p (record {
  steps = λ i h. absurd (omega arith);
  seconds = λ i h. absurd (omega arith);
  here = there;
})

-- one more person on the path changes nothing of where it begins
pub met-push : (path : List ℕ) (x v : ℕ) → met (path ++ x ∷ []) v 0 ≡ met path x 0
met-push path x v = get_or_append_left (path ++ x ∷ []) (v ∷ []) 0 0 (omega (arith, length_push path x))

-- who comes next has two left
pub next_goes : {rows : List (List ℕ)} {bounds : List ℕ} {x v : ℕ} → IsGoodAt rows (bound_in bounds) → IsNextPerson rows (bound_in bounds) x v → HasTwoLeft rows bounds v
next_goes {rows} {bounds} {x} {v} good n =
    let w = follows good x n.over n.second in
    let e : w.next.over ≡ n.over = one_second w.next.second n.second in
    let is : w.who ≡ v = one_final (rw e at w.next.final) n.final in
    record { next = w.onward; second = rw is at w.second }

module _ {rows : List (List ℕ)} {path places marks : List ℕ} (k : IsPathKept rows path places marks) (x : ℕ) (there : x < length rows) (fresh : get_or marks x 0 ≡ 0) where
  -- one more person on the path
  pub path_goes_on : (place : ℕ) → IsPathKept rows (path ++ x ∷ []) (places ++ place ∷ []) (set marks x (length path + 1))
  path_goes_on place = record {
    place_each = omega (arith, long, length_push places place, k.place_each);
    inside = push_cases (λ i z. z < length rows) path x 0 there k.inside;
    mark_each = length-set marks x (length path + 1) ∙ k.mark_each;
    index = λ i h. elim (lt_or_le i (length path)) [
      | inl l ↦ rw (get_or_append_left path (x ∷ []) 0 i l, get_or-set_other marks x (get_or path i 0) (length path + 1) 0 (λ e. other i l e)) (k.index i l)
      | inr l ↦ let e : length path ≡ i = omega (arith, l, h, long) in rw (get_or_push path x 0 i e, get_or-set_same marks x (length path + 1) 0 inside_marks) (omega (arith, e))
    ];
    marked = marked;
  }
    where
      long : length (path ++ x ∷ []) ≡ length path + 1
      long = length_push path x

      inside_marks : x < length marks
      inside_marks = omega (arith, there, k.mark_each)

      other : (i : ℕ) → i < length path → get_or path i 0 ≡ x → ⊥
      other i l e = let m : get_or marks x 0 ≡ i + 1 = rw e at (k.index i l) in omega (arith, m, fresh)

      marked : (z : ℕ) → get_or (set marks x (length path + 1)) z 0 ≢ 0 → (get_or (set marks x (length path + 1)) z 0 ≤ length (path ++ x ∷ [])) × (get_or (path ++ x ∷ []) (get_or (set marks x (length path + 1)) z 0 - 1) 0 ≡ z)
      marked z = set_cases (λ z m. m ≢ 0 → (m ≤ length (path ++ x ∷ [])) × (get_or (path ++ x ∷ []) (m - 1) 0 ≡ z)) marks x (length path + 1) 0 inside_marks
          (λ _. (omega (arith, long), get_or_push path x 0 (length path + 1 - 1) (omega arith)))
          (λ w ne some. let m = k.marked w some in (omega (arith, m.0, long), get_or_append_left path (x ∷ []) 0 (get_or marks w 0 - 1) (omega (arith, m.0, some)) ∙ m.1)) z

module _ {rows : List (List ℕ)} {bounds path places : List ℕ} {x : ℕ} (good : IsGoodAt rows (bound_in bounds)) (g : IsCycleWalk rows bounds path places x) where
  -- one more step, to v
  pub walk_goes_on : (place v : ℕ) → length places ≡ length path → IsSecondPlace rows bounds x place → IsLast rows (bound_in bounds) (entry rows x place) v → v < length rows
      → IsCycleWalk rows bounds (path ++ x ∷ []) (places ++ place ∷ []) v
  walk_goes_on place v place_each second last there = record { steps = steps; seconds = seconds; here = there }
    where
      long : length (path ++ x ∷ []) ≡ length path + 1
      long = length_push path x

      same : (i : ℕ) → i < length (path ++ x ∷ []) → met (path ++ x ∷ []) v i ≡ met path x i
      same i h = get_or_append_left (path ++ x ∷ []) (v ∷ []) 0 i h

      steps : (i : ℕ) → i < length (path ++ x ∷ []) → HasTwoLeft rows bounds (met (path ++ x ∷ []) v i) → IsNextPerson rows (bound_in bounds) (met (path ++ x ∷ []) v i) (met (path ++ x ∷ []) v (suc i))
      steps i h two = elim (lt_or_le i (length path)) [
        | inl l ↦ rw (same i h, same (suc i) (omega (arith, l, long))) (g.steps i l (rw (same i h) at two))
        | inr l ↦
            let e : length path ≡ i = omega (arith, l, h, long) in
            rw (same i h, get_or_push path x 0 i e, get_or_push (path ++ x ∷ []) v 0 (suc i) (omega (arith, e, long)))
            (record { over = entry rows x place; second = second.second; final = last })
      ]

      seconds : (i : ℕ) → i < length (path ++ x ∷ []) → HasTwoLeft rows bounds (met (path ++ x ∷ []) v i) → IsSecondPlace rows bounds (get_or (path ++ x ∷ []) i 0) (get_or (places ++ place ∷ []) i 0)
      seconds i h two = elim (lt_or_le i (length path)) [
        | inl l ↦ rw (get_or_append_left path (x ∷ []) 0 i l, get_or_append_left places (place ∷ []) 0 i (omega (arith, l, place_each))) (g.seconds i l (rw (same i h) at two))
        | inr l ↦ let e : length path ≡ i = omega (arith, l, h, long) in rw (get_or_push path x 0 i e, get_or_push places place 0 i (omega (arith, e, place_each))) second
      ]

  -- where somebody on it has two left, so has everybody from there on
  goes_from : (d k : ℕ) → d + k ≤ length path → HasTwoLeft rows bounds (met path x k) → HasTwoLeft rows bounds (met path x (d + k))
  goes_from zero k h two = let e : 0 + k ≡ k = omega arith in rw e two
  goes_from (suc d) k h two =
      let before = goes_from d k (omega (arith, h)) two in
      let e : suc d + k ≡ suc (d + k) = omega arith in
      rw e (next_goes good (g.steps (d + k) (omega (arith, h)) before))

  at_end : met path x (length path) ≡ x
  at_end = get_or_push path x 0 (length path) refl

  -- x has two left, where whoever the walk began with has
  pub goes_on : HasTwoLeft rows bounds (met path x 0) → HasTwoLeft rows bounds x
  goes_on two = let e : length path + 0 ≡ length path = omega arith in rw at_end at (rw e at (goes_from (length path) 0 (omega arith) two))

  -- x was met before, at the index `one`
  module _ {marks : List ℕ} {one : ℕ} (kept : IsPathKept rows path places marks) (two : HasTwoLeft rows bounds x) (is : get_or marks x 0 ≡ suc one) where
    at_one : (suc one ≤ length path) × (get_or path one 0 ≡ x)
    at_one = let k = kept.marked x (λ e. omega (arith, is, e)) in (omega (arith, k.0, is), ap (λ z. get_or path z 0) (omega (arith, is)) ∙ k.1)

    order : one < length path
    order = omega (arith, at_one.0)

    on_path : (i : ℕ) → i < length path → met path x i ≡ get_or path i 0
    on_path i h = get_or_append_left path (x ∷ []) 0 i h

    goes : (i : ℕ) → one ≤ i → i < length path → HasTwoLeft rows bounds (get_or path i 0)
    goes i late h =
        let e : (i - one) + one ≡ i = omega (arith, late) in
        let first : HasTwoLeft rows bounds (met path x one) = rw (on_path one order, at_one.1) two in
        rw (on_path i h) at (rw e at (goes_from (i - one) one (omega (arith, e, h)) first))

    steps_on : (i : ℕ) → suc i < length path → HasTwoLeft rows bounds (get_or path i 0) → IsNextPerson rows (bound_in bounds) (get_or path i 0) (get_or path (suc i) 0)
    steps_on i h t =
        let less : i < length path = omega (arith, h) in
        let n = g.steps i less (rw (on_path i less) t) in
        rw (on_path i less, on_path (suc i) h) at n

    closes : IsNextPerson rows (bound_in bounds) (get_or path (length path - 1) 0) (get_or path one 0)
    closes =
        let end : ℕ = length path - 1 in
        let up : suc end ≡ length path = omega (arith, order) in
        let less : end < length path = omega (arith, up) in
        let n = g.steps end less (rw (on_path end less) (goes end (omega (arith, order, up)) less)) in
        let b : met path x (suc end) ≡ get_or path one 0 = ap (met path x) up ∙ at_end ∙ sym at_one.1 in
        rw (on_path end less, b) at n

    -- the walk is closed at that index
    pub walk_closes : IsClosedWalk rows bounds path places one
    walk_closes = record {
      order = order;
      goes = goes;
      steps = steps_on;
      closes = closes;
      place_each = kept.place_each;
      seconds = λ i h t. g.seconds i h (rw (on_path i h) t);
      inside = kept.inside;
      distinct = λ i j l h e. let p = kept.index i (omega (arith, l, h)) in let q = kept.index j h in omega (arith, ap (λ z. get_or marks z 0) e, p, q, l);
    }

    -- and the path begins where the walk does
    pub starts_on : get_or path 0 0 ≡ met path x 0
    starts_on = sym (on_path 0 (omega (arith, order)))

-- a path is no longer than there are persons
pub path_fits : {rows : List (List ℕ)} {path places marks : List ℕ} → IsPathKept rows path places marks → length path ≤ length rows
path_fits {rows} {path = path} g = elim (lt_or_le (length rows) (length path)) [
  | inr le ↦ le
  | inl more ↦
      let w = pigeonhole (length rows) (λ i. get_or path i 0) (λ i h. g.inside i (omega arith)) in
      let a = g.index w.one (let o = w.order in let h = w.within in omega arith) in
      let b = g.index w.two (let h = w.within in omega arith) in
      let e = w.same in
      let o = w.order in
      absurd (let c = rw e at a in omega arith)
]

-- what is left of a path once it is cut off
pub path_kept : {rows : List (List ℕ)} {path places marks now : List ℕ} {keep upto : ℕ} → IsPathKept rows path places marks → AreUnmarked path keep upto marks now → upto ≡ length path → keep ≤ length path
    → IsPathKept rows (take keep path) (take keep places) now
path_kept {rows} {path} {places} {marks} {now} {keep} {upto} k u full le = record {
  place_each = length-take-le keep places (omega (arith, k.place_each, le)) ∙ sym long;
  inside = λ i h. rw (get_or-take keep path i 0 (omega (arith, h, long))) (k.inside i (omega (arith, h, long, le)));
  mark_each = u.one_each ∙ k.mark_each;
  index = λ i h. rw (get_or-take keep path i 0 (omega (arith, h, long))) (index i (omega (arith, h, long)));
  marked = marked;
}
  where
    long : length (take keep path) ≡ keep
    long = length-take-le keep path le

    index : (i : ℕ) → i < keep → get_or now (get_or path i 0) 0 ≡ i + 1
    index i h = elim (u.other (get_or path i 0)) [
      | inl s ↦ s ∙ k.index i (omega (arith, h, le))
      | inr w ↦
          let a = k.index i (omega (arith, h, le)) in
          let b = k.index w.0.at (omega (arith, w.0.early, full)) in
          absurd (omega (arith, ap (λ z. get_or marks z 0) w.0.is, a, b, w.0.late, h))
    ]

    marked : (z : ℕ) → get_or now z 0 ≢ 0 → (get_or now z 0 ≤ length (take keep path)) × (get_or (take keep path) (get_or now z 0 - 1) 0 ≡ z)
    marked z some = elim (u.other z) [
      | inr w ↦ absurd (some w.1)
      | inl s ↦
          let m = k.marked z (λ e. some (s ∙ e)) in
          let before : get_or marks z 0 - 1 < keep = elim (lt_or_le (get_or marks z 0 - 1) keep) [
            | inl l ↦ l
            | inr l ↦
                let zero : get_or now (get_or path (get_or marks z 0 - 1) 0) 0 ≡ 0 = u.gone (get_or marks z 0 - 1) l (omega (arith, m.0, full, s, some)) in
                absurd (some (ap (λ v. get_or now v 0) (sym m.1) ∙ zero))
          ] in
          rw s (omega (arith, long, before), get_or-take keep path (get_or marks z 0 - 1) 0 before ∙ m.1)
    ]

-- whether the cycle is a party by itself, by the second of the person at its beginning and the mark of that one
module _ {rows : List (List ℕ)} {bounds path places marks : List ℕ} {one x place : ℕ} (kept : IsPathKept rows path places marks) (closed : IsClosedWalk rows bounds path places one)
    (is : x ≡ get_or path one x) (stands : place ≡ get_or places one place) where
  begins : x ≡ get_or path one 0
  begins = is ∙ get_or_default_zero path one x closed.order

  second_begins : IsSecondPlace rows bounds x place
  second_begins =
      let e : place ≡ get_or places one 0 = stands ∙ get_or_default_zero places one place (omega (arith, closed.place_each, closed.order)) in
      rw (begins, e) (closed.seconds one closed.order (closed.goes one (omega arith) closed.order))

  ends : (own : IsOwnParty rows bounds path one) → own.next ≡ entry rows x place
  ends own = let s : IsSecond rows (bound_in bounds) x own.next = rw begins own.second in one_second s second_begins.second

  -- where the cycle is a party by itself, the second of its beginning stands at the bound
  pub own_at_bound : IsOwnParty rows bounds path one → place ≡ get_or bounds x 0
  own_at_bound own = let a = own.at in sym second_begins.at ∙ rw (ends own, sym begins) at a

  module _ {y mark : ℕ} (named : y ≡ entry rows x place) (there : y < length rows) (marked : mark ≡ get_or marks y mark) where
    mark_of : mark ≡ get_or marks y 0
    mark_of = marked ∙ get_or_default_zero marks y mark (omega (arith, there, kept.mark_each))

    -- and that second has the mark of an index of the cycle
    pub own_marked : IsOwnParty rows bounds path one → one < mark
    own_marked own =
        let o = own.here in
        let e : get_or path o.at 0 ≡ y = o.is ∙ ends own ∙ sym named in
        let m : get_or marks y 0 ≡ o.at + 1 = rw e at (kept.index o.at o.early) in
        omega (arith, m, o.late, mark_of)

    -- a second at the bound with such a mark makes the cycle a party by itself
    pub marked_own : get_or bounds x 0 ≤ place → one < mark → IsOwnParty rows bounds path one
    marked_own le more =
        let m = kept.marked y (λ e. omega (arith, e, more, mark_of)) in
        let s : IsSecond rows (bound_in bounds) x y = rw named second_begins.second in
        let a : place_of rows x y ≡ get_or bounds x 0 = omega (arith, rw (sym named) at second_begins.at, s.left.here, le) in
        record {
          next = y;
          second = rw (sym begins) s;
          at = rw (sym begins) a;
          here = record { at = get_or marks y 0 - 1; late = omega (arith, more, mark_of); early = omega (arith, m.0, more, mark_of); is = m.1 };
        }

-- The cuts round a cycle, and what stays short.
use Rattle.std.proofs.Common.{◌≡◌, ℕ, zero, suc, ◌+◌, ◌-◌, ◌<◌, ◌≤◌, ◌⊎◌, ◌∷◌, [], inl, inr, arith, refl, sym, ap, ◌∙◌, List, length, get_or, set, take}
use Rattle.std.proofs.lemmas.List.{get_or-set_same, get_or-set_other, length-set, get_or_push, get_or_append_left, get_or-take, length-take-le}
use Rattle.std.proofs.lemmas.List.Sums.{sum_by-cons}
use Rattle.std.specs.List.{sum_by}
use Rattle.sm_lists.specs.Rows.{entry, place_of}
use Rattle.sm_lists.proofs.Counting.{lt_or_le, eq_or_ne}
use Rattle.sm_room.specs.Bounds.{IsLast, IsSecond, IsNextPerson, IsGoodAt, bound_in}
use Rattle.sm_room.specs.Rotating.{HasTwoLeft, IsShort, met, IsCycleWalk, IsClosedWalk, IsOwnParty, IsCutBy, AreSecondsCut, IsRotated, GoesTo}
use Rattle.sm_theory.specs.Partitions.{IsStablePartition}
use Rattle.sm_room.proofs.EndCore.{partition_at_end}
use Rattle.sm_room.proofs.TableCore.{one_final, one_second, has_first, has_second, inside_rows, turn, left_before, had_second}
use Rattle.sm_room.proofs.PhaseTwoCore.{Cuts, Two, HasTwo, Round, second_before_last, less, good_again}
use Rattle.sm_room.proofs.CycleCore.{Walk, On, round_of_walk, none_has_two, start_has}
use Rattle.sm_room.proofs.WalkLemmas.{next_goes}
use Rattle.sm_room.proofs.TailCore.{tail_keeps}

module _ {rows : List (List ℕ)} {x : ℕ} (old now : List ℕ) (lower : (y : ℕ) → get_or now y 0 ≤ get_or old y 0) where
  -- who is short stays so while bounds fall
  pub short_kept : IsShort rows old x → IsShort rows now x
  short_kept h = record {
    each = λ y l. elim (h.each y (left_before (bound_in old) (bound_in now) lower l)) [
      | inl f ↦ inl (record { left = l; least = λ z k. f.least z (left_before (bound_in old) (bound_in now) lower k) })
      | inr f ↦ inr (record { left = l; at = omega (arith, f.at, l.here, lower x) })
    ];
  }

  -- who has two left had two
  two_before : HasTwoLeft rows now x → HasTwoLeft rows old x
  two_before t = let w = had_second (bound_in old) (bound_in now) lower t.second in record { next = w.next; second = w.second }

-- who has no two left is short, and who has a second that is the last
pub short_unless : {rows : List (List ℕ)} (bounds : List ℕ) (x : ℕ) → (HasTwoLeft rows bounds x → IsShort rows bounds x) → IsShort rows bounds x
short_unless {rows} bounds x short = record {
  each = λ y l.
      let f = has_first l in
      elim (lt_or_le (place_of rows x f.foremost) (place_of rows x y)) [
        | inl less ↦ let s = has_second f.first l less in (short (record { next = s.next; second = s.second })).each y l
        | inr le ↦ inl (record { left = l; least = λ z k. omega (arith, f.first.least z k, le) })
      ];
}

-- who has its second at its bound is short
pub short_two : {rows : List (List ℕ)} {bounds : List ℕ} {x z : ℕ} → IsSecond rows (bound_in bounds) x z → get_or bounds x 0 ≤ place_of rows x z → IsShort rows bounds x
short_two {rows} {bounds} {x} {z} s le = record {
  each = λ y l. elim (lt_or_le (place_of rows x s.foremost) (place_of rows x y)) [
    | inl more ↦ inr (record { left = l; at = omega (arith, s.least y l more, le, l.here) })
    | inr less ↦ inl (record { left = l; least = λ v k. omega (arith, s.first.least v k, less) })
  ];
}

-- one list is nowhere above the other, and somewhere below it
sum_le : (xs ys : List ℕ) → length xs ≡ length ys → ((i : ℕ) → get_or xs i 0 ≤ get_or ys i 0) → sum_by (λ i. i) xs ≤ sum_by (λ i. i) ys
sum_le [] ys long le = omega arith
sum_le (x ∷ xs) [] long le = absurd (omega arith)
sum_le (x ∷ xs) (y ∷ ys) long le =
    let first : x ≤ y = le 0 in
    let rest = sum_le xs ys (omega arith) (λ i. le (suc i)) in
    omega (arith, sum_by-cons (λ (i : ℕ). i) x xs, sum_by-cons (λ (i : ℕ). i) y ys)

sum_lt : (xs ys : List ℕ) (k : ℕ) → length xs ≡ length ys → ((i : ℕ) → get_or xs i 0 ≤ get_or ys i 0) → k < length xs → get_or xs k 0 < get_or ys k 0 → sum_by (λ i. i) xs < sum_by (λ i. i) ys
sum_lt [] ys k long le h lt = absurd (omega arith)
sum_lt (x ∷ xs) [] k long le h lt = absurd (omega arith)
sum_lt (x ∷ xs) (y ∷ ys) zero long le h lt =
    let first : x < y = lt in
    let rest = sum_le xs ys (omega arith) (λ i. le (suc i)) in
    omega (arith, sum_by-cons (λ (i : ℕ). i) x xs, sum_by-cons (λ (i : ℕ). i) y ys)
sum_lt (x ∷ xs) (y ∷ ys) (suc k) long le h lt =
    let first : x ≤ y = le 0 in
    let rest = sum_lt xs ys k (omega arith) (λ i. le (suc i)) (omega arith) lt in
    omega (arith, sum_by-cons (λ (i : ℕ). i) x xs, sum_by-cons (λ (i : ℕ). i) y ys)

module _ {rows : List (List ℕ)} {bounds path places : List ℕ} {one : ℕ} (closed : IsClosedWalk rows bounds path places one) where
  abbrev p : ℕ → ℕ
  p i = get_or path i 0

  -- who comes next at an index of the cycle, and at which index
  pub record NextOn (i : ℕ) : Type 0 where
    pub at : ℕ
    pub next : IsNextPerson rows (bound_in bounds) (get_or path i 0) (get_or path at 0)
    pub inside : at < length path
    pub which : ((suc i < length path) × (at ≡ suc i)) ⊎ ((length path ≤ suc i) × (at ≡ one))

  next_on : (i : ℕ) → one ≤ i → i < length path → NextOn i
  next_on i late h = elim (lt_or_le (suc i) (length path)) [
    | inl l ↦ record { at = suc i; next = closed.steps i l (closed.goes i late h); inside = l; which = inl (l, refl) }
    | inr l ↦
        let e : length path - 1 ≡ i = omega (arith, l, h) in
        let n : IsNextPerson rows (bound_in bounds) (p i) (p one) = rw e at closed.closes in
        record { at = one; next = n; inside = closed.order; which = inr (l, refl) }
  ]

  -- two persons of the cycle have different seconds
  seconds_apart : (i j y : ℕ) → one ≤ i → i < j → j < length path → IsSecond rows (bound_in bounds) (p i) y → IsSecond rows (bound_in bounds) (p j) y → ⊥
  seconds_apart i j y late l h f g =
      let a = next_on i late (omega (arith, l, h)) in
      let b = next_on j (omega (arith, late, l)) h in
      let fa : IsLast rows (bound_in bounds) y (p a.at) = let e = one_second a.next.second f in rw e at a.next.final in
      let fb : IsLast rows (bound_in bounds) y (p b.at) = let e = one_second b.next.second g in rw e at b.next.final in
      let same : p a.at ≡ p b.at = one_final fa fb in
      elim a.which [
        | inr w ↦ omega (arith, w.0, l, h)
        | inl w ↦ elim b.which [
          | inl v ↦ closed.distinct a.at b.at (omega (arith, w.1, v.1, l)) b.inside same
          | inr v ↦ closed.distinct b.at a.at (omega (arith, w.1, v.1, late)) a.inside (sym same)
        ]
      ]

  -- the second of one more person of the cycle is cut behind it
  pub cut_step : {i : ℕ} {now : List ℕ} (y v : ℕ) → AreSecondsCut rows bounds path one i now → one ≤ i → i < length path → length bounds ≡ length rows
      → y ≡ entry rows (p i) (get_or places i 0) → v ≡ place_of rows y (p i) → AreSecondsCut rows bounds path one (i + 1) (set now y v)
  cut_step {i} {now} y v g late h long is to = record { one_each = length-set now y v ∙ g.one_each; cut = cut; other = other }
    where
      second : IsSecond rows (bound_in bounds) (p i) y
      second = rw is (closed.seconds i h (closed.goes i late h)).second

      there : y < length now
      there = omega (arith, g.one_each, long, inside_rows rows y (p i) (turn rows (p i) y second.left.acc))

      cut : (j z : ℕ) → one ≤ j → j < i + 1 → IsSecond rows (bound_in bounds) (p j) z → get_or (set now y v) z 0 ≡ place_of rows z (p j)
      cut j z a l f = elim (eq_or_ne j i) [
        | inl e ↦
            let k : IsSecond rows (bound_in bounds) (p i) z = rw e at f in
            let d : z ≡ y = one_second k second in
            rw (e, d) (get_or-set_same now y v 0 there ∙ to)
        | inr ne ↦ elim (eq_or_ne z y) [
          | inl d ↦ let k : IsSecond rows (bound_in bounds) (p j) y = rw d at f in absurd (seconds_apart j i y a (omega (arith, l, ne)) h k second)
          | inr d ↦ get_or-set_other now y z v 0 d ∙ g.cut j z a (omega (arith, l, ne)) f
        ]
      ]

      other : (z : ℕ) → IsCutBy rows bounds path one (i + 1) (set now y v) z ⊎ (get_or (set now y v) z 0 ≡ get_or bounds z 0)
      other z = elim (eq_or_ne z y) [
        | inl d ↦ rw d (inl (record { at = i; late = late; early = omega arith; second = second; bound = get_or-set_same now y v 0 there ∙ to }))
        | inr d ↦ elim (g.other z) [
          | inl w ↦ inl (record { at = w.at; late = w.late; early = omega (arith, w.early); second = w.second; bound = get_or-set_other now y z v 0 d ∙ w.bound })
          | inr e ↦ inr (get_or-set_other now y z v 0 d ∙ e)
        ]
      ]

  abbrev end : ℕ
  end = length path - 1

  walk_of : Walk rows (bound_in bounds) p one end
  walk_of = record {
    order = omega (arith, closed.order);
    steps = λ i late h. closed.steps i (omega (arith, h)) (closed.goes i late (omega (arith, h)));
    closes = closed.closes;
  }

  abbrev C : ℕ → Type 0
  C = On p one end

  abbrev round : Round rows (bound_in bounds) C
  round = round_of_walk walk_of

  -- where the cycle is a party by itself, whoever the walk began with is short
  module _ (good : IsGoodAt rows (bound_in bounds)) (own : IsOwnParty rows bounds path one) where
    has : HasTwo good round (p one)
    has = record {
      last = own.next;
      two = record {
        here = record { at = one; late = omega arith; early = omega (arith, closed.order); is = refl };
        there = record { at = own.here.at; late = own.here.late; early = omega (arith, own.here.early); is = own.here.is };
        second = own.second;
        at = own.at;
      };
    }

    early : HasTwoLeft rows bounds (p 0) → (i : ℕ) → i < length path → HasTwoLeft rows bounds (p i)
    early two zero h = two
    early two (suc i) h = next_goes good (closed.steps i h (early two i (omega (arith, h))))

    -- it has nobody left but a first and a last
    pub own_short : IsShort rows bounds (p 0)
    own_short = short_unless bounds (p 0) (λ two.
        let h = start_has walk_of good has (λ i l. closed.steps i (omega (arith, l, closed.order)) (early two i (omega (arith, l, closed.order)))) in
        short_two h.two.second (omega (arith, h.two.at)))

  module _ {i : ℕ} {now : List ℕ} (good : IsGoodAt rows (bound_in bounds)) (apart : IsOwnParty rows bounds path one → ⊥) (g : AreSecondsCut rows bounds path one i now) (full : i ≡ length path) where
    cuts : Cuts rows (bound_in bounds) (bound_in now) C
    cuts = record {
      cut = λ x y k f.
          let f' : IsSecond rows (bound_in bounds) (p k.at) y = rw (sym k.is) at f in
          let e = g.cut k.at y k.late (omega (arith, k.early, full, closed.order)) f' in
          rw k.is at e;
      other = λ y. elim (g.other y) [
        | inl w ↦ inl (record { by = p w.at; here = record { at = w.at; late = w.late; early = omega (arith, w.early, full); is = refl }; second = w.second; bound = w.bound })
        | inr e ↦ inr e
      ];
    }

    none : (u w : ℕ) → Two rows (bound_in bounds) C u w → ⊥
    none = none_has_two walk_of good (λ h. apart (record {
      next = h.last;
      second = h.two.second;
      at = h.two.at;
      here = record { at = h.two.there.at; late = h.two.there.late; early = omega (arith, h.two.there.early, closed.order); is = h.two.there.is };
    }))

    lower : (y : ℕ) → get_or now y 0 ≤ get_or bounds y 0
    lower = less good round cuts none

    -- once all round the cycle are cut, the table is good again, and has lost pairs
    pub cut_end : length bounds ≡ length rows → IsRotated rows bounds now
    cut_end long = record {
      one_each = g.one_each;
      good = good_again good round cuts none;
      lower = lower;
      falls = sum_lt now bounds z g.one_each lower z_there falls;
    }
      where
        z : ℕ
        z = entry rows (p one) (get_or places one 0)

        second : IsSecond rows (bound_in bounds) (p one) z
        second = (closed.seconds one closed.order (closed.goes one (omega arith) closed.order)).second

        z_there : z < length now
        z_there = omega (arith, g.one_each, long, inside_rows rows z (p one) (turn rows (p one) z second.left.acc))

        falls : get_or now z 0 < get_or bounds z 0
        falls = omega (arith, g.cut one z (omega arith) (omega (arith, closed.order, full)) second, second_before_last good (p one) z second)

    -- what is before the cycle is a walk still, to whoever is before it, or to its first where nobody is
    module _ {keep : ℕ} (is : keep ≡ one - 1) where
      within : keep < length path
      within = omega (arith, is, closed.order)

      long : length (take keep path) ≡ keep
      long = length-take-le keep path (omega (arith, within))

      at : (j : ℕ) → j ≤ keep → met (take keep path) (p keep) j ≡ p j
      at j h = elim (eq_or_ne j keep) [
        | inl e ↦ get_or_push (take keep path) (p keep) 0 j (omega (arith, long, e)) ∙ ap p (sym e)
        | inr e ↦ get_or_append_left (take keep path) (p keep ∷ []) 0 j (omega (arith, long, h, e)) ∙ get_or-take keep path j 0 (omega (arith, h, e))
      ]

      -- whoever has two left before the cycle had two, the second of which is second still, with the same last
      had : (j : ℕ) → j < keep → HasTwoLeft rows now (met (take keep path) (p keep) j) → HasTwoLeft rows bounds (p j)
      had j h t = two_before bounds now lower (rw (at j (omega (arith, h))) at t)

      kept : (j : ℕ) → j < keep → HasTwoLeft rows now (met (take keep path) (p keep) j)
          → IsSecond rows (bound_in now) (p j) (entry rows (p j) (get_or places j 0)) × IsLast rows (bound_in now) (entry rows (p j) (get_or places j 0)) (p (suc j))
      kept j h t =
          let still : HasTwoLeft rows now (p j) = rw (at j (omega (arith, h))) at t in
          let two = had j h t in
          tail_keeps walk_of good (λ a b l m. closed.distinct a b l (omega (arith, m, closed.order))) cuts none
          (omega (arith, h, is)) (closed.steps j (omega (arith, h, within)) two) still.second (closed.seconds j (omega (arith, h, within)) two).second

      -- the path before the cycle is still a walk
      pub walk_back : IsCycleWalk rows now (take keep path) (take keep places) (p keep)
      walk_back = record {
        steps = λ j h t. let l : j < keep = omega (arith, h, long) in let k = kept j l t in
            rw (at j (omega (arith, l)), at (suc j) (omega (arith, l))) (record { over = entry rows (p j) (get_or places j 0); second = k.0; final = k.1 });
        seconds = λ j h t. let l : j < keep = omega (arith, h, long) in let k = kept j l t in
            let s = closed.seconds j (omega (arith, l, within)) (had j l t) in
            rw (get_or-take keep path j 0 l, get_or-take keep places j 0 l) (record { on_list = s.on_list; at = s.at; second = k.0 });
        here = closed.inside keep within;
      }

      -- and it begins with the same person
      pub starts_back : met (take keep path) (p keep) 0 ≡ p 0
      starts_back = at 0 (omega arith)

-- where all are short, the firsts make a stable partition
pub partition_of_short : {rows : List (List ℕ)} {next : List ℕ} (bounds : List ℕ) → IsGoodAt rows (bound_in bounds) → ((x : ℕ) → x < length rows → IsShort rows bounds x) → length next ≡ length rows
    → ((x : ℕ) → x < length rows → GoesTo rows (bound_in bounds) next x) → IsStablePartition rows next
partition_of_short {rows} {next} bounds good short long goes =
    partition_at_end rows (bound_in bounds) next good long goes (λ x y l. (short x (inside_rows rows x y l.acc)).each y l)

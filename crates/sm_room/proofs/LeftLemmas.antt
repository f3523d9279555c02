-- Whether an entry is left, and the list of those who are.
use Rattle.std.proofs.Common.{◌≡◌, ◌≢◌, ℕ, ◌+◌, ◌<◌, ◌≤◌, ◌++◌, ◌∷◌, [], inl, inr, arith, refl, sym, ap, ◌∙◌, List, length, get_or}
use Rattle.std.proofs.lemmas.List.{get_or_append_left, get_or_push, length_push, get_or_past}
use Rattle.sm_lists.specs.Rows.{row, entry, place_of}
use Rattle.sm_lists.proofs.Counting.{lt_or_le, eq_or_ne}
use Rattle.sm_lists.proofs.PlaceLemmas.{entry-place_of}
use Rattle.sm_lists.proofs.PlaceLemmas.{place_on_is, place_on-lt}
use Rattle.sm_lists.proofs.ItemLemmas.{push_cases}
use Rattle.sm_theory.specs.Rooms.{AreRoomLists}
use Rattle.sm_room.specs.Bounds.{IsLeft, bound_in}
use Rattle.sm_room.specs.Tables.{ListsLeft, IsTable, IsBound, AreBoundsOf}
use Rattle.sm_room.specs.Proposing.{IsListLeft}
use Rattle.sm_lists.proofs.RowLemmas.{row_in_range}

-- an entry has its own place
pub place_of-entry : {rows : List (List ℕ)} → AreRoomLists rows → (x i : ℕ) → i < length (row rows x) → place_of rows x (entry rows x i) ≡ i
place_of-entry {rows} h x i on = place_on_is (row rows x) (entry rows x i) i on refl (λ k l. h.distinct x k i l on)

-- an entry is left where both persons list each other within their bounds
pub left_where : {rows : List (List ℕ)} (b : ℕ → ℕ) (x i y c : ℕ) → AreRoomLists rows → i < length (row rows x) → y ≡ entry rows x i → c ≡ place_of rows (entry rows x i) x
    → x ≢ y → c < length (row rows y) → i ≤ b x → c ≤ b y → IsLeft rows b x (entry rows x i)
left_where {rows} b x i y c h on is cross apart listed here there =
    let e = place_of-entry h x i on in
    let listed' : c < length (row rows (entry rows x i)) = rw is at listed in
    let there' : c ≤ b (entry rows x i) = rw is at there in
    record {
      acc = record { apart = λ d. apart (d ∙ sym is); listed = omega (arith, e, on); returned = omega (arith, cross, listed') };
      here = omega (arith, e, here);
      there = omega (arith, cross, there');
    }

-- x and y differ, y lists x, and both places are within the bounds
pub record Where (rows : List (List ℕ)) (b : ℕ → ℕ) (x i y c : ℕ) : Type 0 where
  pub apart : x ≢ y
  pub listed : c < length (row rows y)
  pub here : i ≤ b x
  pub there : c ≤ b y

-- and where it is left they do
pub where_left : {rows : List (List ℕ)} (b : ℕ → ℕ) (x i y c : ℕ) → AreRoomLists rows → i < length (row rows x) → y ≡ entry rows x i → c ≡ place_of rows (entry rows x i) x
    → IsLeft rows b x (entry rows x i) → Where rows b x i y c
where_left {rows} b x i y c h on is cross l =
    let e = place_of-entry h x i on in
    rw is (record { apart = l.acc.apart; listed = omega (arith, cross, l.acc.returned); here = omega (arith, e, l.here); there = omega (arith, cross, l.there) })

module _ {rows : List (List ℕ)} {bounds : List ℕ} {x upto : ℕ} {list : List ℕ} (g : IsListLeft rows bounds x upto list) where
  at_upto : (y : ℕ) → IsLeft rows (bound_in bounds) x y → place_of rows x y ≡ upto → y ≡ entry rows x upto
  at_upto y l e = sym (entry-place_of rows x y l.acc.listed) ∙ ap (entry rows x) e

  -- an entry that isn't left is passed by
  pub list_passes : (IsLeft rows (bound_in bounds) x (entry rows x upto) → ⊥) → IsListLeft rows bounds x (upto + 1) list
  list_passes gone = record {
    left = g.left;
    below = λ i k. omega (arith, g.below i k);
    all = λ y l less. elim (eq_or_ne (place_of rows x y) upto) [
      | inl e ↦ absurd (let d = at_upto y l e in gone (rw d at l))
      | inr e ↦ g.all y l (omega (arith, less, e))
    ];
    ordered = g.ordered;
  }

  -- an entry that is left stands behind the earlier ones
  pub list_takes : AreRoomLists rows → upto < length (row rows x) → (z : ℕ) → z ≡ entry rows x upto → IsLeft rows (bound_in bounds) x (entry rows x upto) → IsListLeft rows bounds x (upto + 1) (list ++ z ∷ [])
  list_takes h on z is new = record {
    left = push_cases (λ i y. IsLeft rows (bound_in bounds) x y) list z 0 (rw is new) g.left;
    below = below;
    all = λ y l less. elim (eq_or_ne (place_of rows x y) upto) [
      | inl e ↦ (length list, (let k = length_push list z in omega arith), get_or_push list z 0 (length list) refl ∙ is ∙ sym (at_upto y l e))
      | inr e ↦ let w = g.all y l (omega (arith, less, e)) in (w.0, (let k = length_push list z in let lt = w.1 in omega arith), get_or_append_left list (z ∷ []) 0 w.0 w.1 ∙ w.2)
    ];
    ordered = λ i j l k. let long = length_push list z in elim (lt_or_le j (length list)) [
      | inl m ↦ rw (get_or_append_left list (z ∷ []) 0 i (omega arith), get_or_append_left list (z ∷ []) 0 j m) (g.ordered i j l m)
      | inr m ↦
          let e : length list ≡ j = omega (arith, m, k, long) in
          let b = g.below i (omega arith) in
          rw (get_or_append_left list (z ∷ []) 0 i (omega arith), get_or_push list z 0 j e, is, place_of-entry h x upto on) b
    ];
  }
    where
      below : (i : ℕ) → i < length (list ++ z ∷ []) → place_of rows x (get_or (list ++ z ∷ []) i 0) < upto + 1
      below = push_cases (λ i y. place_of rows x y < upto + 1) list z 0 (rw (is, place_of-entry h x upto on) (omega arith)) (λ i k. let b = g.below i k in omega arith)

-- all lists
pub record AreListsLeft (rows : List (List ℕ)) (bounds : List ℕ) (upto : ℕ) (table : List (List ℕ)) : Type 0 where
  pub one_each : length table ≡ upto
  pub each : (x : ℕ) → x < upto → IsListLeft rows bounds x (length (row rows x)) (row table x)

-- the list of one more person
pub lists_take : {rows : List (List ℕ)} {bounds : List ℕ} {upto : ℕ} (table : List (List ℕ)) (list : List ℕ) → AreListsLeft rows bounds upto table
    → IsListLeft rows bounds upto (length (row rows upto)) list → AreListsLeft rows bounds (upto + 1) (table ++ list ∷ [])
lists_take {rows} {bounds} {upto} table list g new =
    let long = length_push table list in let e = g.one_each in
    record {
      one_each = omega arith;
      each = λ x h. push_cases (λ y l. IsListLeft rows bounds y (length (row rows y)) l) table list [] (rw e new) (λ y k. g.each y (omega arith)) x (omega arith);
    }

-- with a list for each person they are the lists of all who are left
pub lists_end : {rows : List (List ℕ)} {bounds : List ℕ} {upto : ℕ} {table : List (List ℕ)} → AreListsLeft rows bounds upto table → upto ≡ length rows
    → ListsLeft rows (bound_in bounds) table
lists_end {rows} {bounds} {upto} {table} g full = record {
  one_each = g.one_each ∙ full;
  left = λ x i on. (g.each x (inside x i on)).left i on;
  all = λ x y l. let lt = row_in_range rows x (place_of rows x y) l.acc.listed in let w = (g.each x (omega arith)).all y l l.acc.listed in place_on-lt (row table x) y w.0 w.1 w.2;
  ordered = λ x i j l on. (g.each x (inside x j on)).ordered i j l on;
}
  where
    inside : (x i : ℕ) → i < length (row table x) → x < upto
    inside x i on = let k = row_in_range table x i on in let e = g.one_each in omega arith

-- the bounds that are read of each list of a table are those of the table
pub are_bounds_of : (rows table : List (List ℕ)) (bounds : List ℕ) → IsTable rows table → length bounds ≡ length rows → ((x : ℕ) → x < length rows → IsBound rows table x (get_or bounds x 0))
    → AreBoundsOf rows table (bound_in bounds)
are_bounds_of rows table bounds t long each = record {
  empty = λ x e. elim (lt_or_le x (length rows)) [
    | inl l ↦ (each x l).empty e
    | inr l ↦ get_or_past bounds x 0 (omega (arith, long, l)) ∙ sym (ap length (get_or_past rows x [] l))
  ];
  last = λ x some. (each x (let k = row_in_range table x 0 some in let e = t.one_each in omega arith)).last some;
}

-- The first rank vector of a stable matching behind a cursor, or that there is none, by a search of all vectors of small numbers.
use Rattle.std.proofs.Common.{◌≡◌, ℕ, zero, suc, ◌+◌, ◌-◌, ◌<◌, ◌≤◌, ◌⊎◌, inl, inr, arith, refl, sym, ap, ◌∙◌, subst, List, [], ◌∷◌, length, map, slice_index, Option, None, Some}
use Rattle.std.specs.Prelude.{nat_le, if◌then◌else◌}
use Rattle.std.specs.List.{range_with_len}
use Rattle.std.proofs.lemmas.Bool.{lt-leb, le-leb}
use Rattle.std.proofs.lemmas.Option.{none-some, same_Some}
use Rattle.std.proofs.lemmas.List.{ext_get_or, get_or_past}
use Rattle.std.proofs.lemmas.List.FromFn.{get_or-map-range_with_len, length-map-range_with_len, get_or-range_with_len, length-range_with_len}
use Rattle.sm_lists.specs.Rows.{row, entry, place_of, agents}
use Rattle.sm_lists.specs.Orders.{IsBefore}
use Rattle.sm_lists.proofs.Counting.{Decided, Decided-lt, Decided-eq, Decided-and, Decided-not, First, search_below, lt_or_le, less_same_more}
use Rattle.sm_lists.proofs.PlaceLemmas.{place_of-le, entry-place_of}
use Rattle.sm_theory.specs.Rooms.{IsAcceptable, mate_of, place_of_mate, IsRoomMatching, RoomBlocks, IsRoomStable}
use Rattle.sm_theory.specs.Listings.{IsBehind}
use Rattle.sm_theory.specs.Vectors.{IsOrder}
use Rattle.sm_theory.proofs.Vectors.Decisions.{Decided-map, Decided-all, Decided-pair}
use Rattle.sm_theory.proofs.Vectors.Order.{irreflexive, compared, Less, More, Alike, alike_equal, Decided-before}
use Rattle.sm_room.proofs.TableCore.{turn, inside_rows, Decided-acceptable}
use Rattle.sm_room_list.specs.RoomVectors.{room_rank, room_vector, IsRoomVector}
use Rattle.sm_room_list.specs.RoomListers.{IsNextVector, IsNoneLeft}
use Rattle.sm_room_list.specs.RoomListings.{RoomGoesOn}

-- Whether a matching is stable is decided.

-- what has to hold of a person that has this mate
abbrev IsMateRight : List (List ℕ) → List (Option ℕ) → ℕ → Option ℕ → Type 0
IsMateRight rows mates x None = Unit {0}
IsMateRight rows mates x (Some y) = IsAcceptable rows x y × (mate_of mates y ≡ Some x)

Decided-is : (o : Option ℕ) (x : ℕ) → Decided (o ≡ Some x)
Decided-is None x = inr (λ e. none-some _ e)
Decided-is (Some y) x = Decided-map (λ e. ap Some e) (λ e. same_Some _ _ e) (Decided-eq y x)

Decided-right : (rows : List (List ℕ)) (mates : List (Option ℕ)) (x : ℕ) (o : Option ℕ) → Decided (IsMateRight rows mates x o)
Decided-right rows mates x None = inl tt
Decided-right rows mates x (Some y) = Decided-and (Decided-acceptable rows x y) (Decided-is (mate_of mates y) x)

mate_right : {rows : List (List ℕ)} {mates : List (Option ℕ)} → IsRoomMatching rows mates → (x : ℕ) (o : Option ℕ) → mate_of mates x ≡ o → IsMateRight rows mates x o
mate_right m x None e = tt
mate_right m x (Some y) e = (m.acceptable x y e, m.in_turn x y e)

-- whoever has a mate is one of the persons
has_mate : (mates : List (Option ℕ)) (x y : ℕ) → mate_of mates x ≡ Some y → x < length mates
has_mate mates x y e = elim (lt_or_le x (length mates)) [ inl h ↦ h | inr h ↦ absurd (none-some _ (sym (get_or_past mates x None h) ∙ e)) ]

-- everybody's mate is right
record AreMatesRight (rows : List (List ℕ)) (mates : List (Option ℕ)) : Type 0 where
  one_each : length mates ≡ length rows
  right : (x : ℕ) → x < length mates → IsMateRight rows mates x (mate_of mates x)

right_matching : {rows : List (List ℕ)} {mates : List (Option ℕ)} → AreMatesRight rows mates → IsRoomMatching rows mates
right_matching {rows} {mates} h = record {
  one_each = h.one_each;
  acceptable = λ x y e. (subst (IsMateRight rows mates x) e (h.right x (has_mate mates x y e))).0;
  in_turn = λ x y e. (subst (IsMateRight rows mates x) e (h.right x (has_mate mates x y e))).1;
}

Decided-matching : (rows : List (List ℕ)) (mates : List (Option ℕ)) → Decided (IsRoomMatching rows mates)
Decided-matching rows mates =
    Decided-map (λ w. right_matching (record { one_each = w.0; right = w.1 })) (λ m. (m.one_each, λ x l. mate_right m x (mate_of mates x) refl))
    (Decided-and (Decided-eq (length mates) (length rows)) (Decided-all (length mates) (λ x. IsMateRight rows mates x (mate_of mates x)) (λ x l. Decided-right rows mates x (mate_of mates x))))

Decided-blocks : (rows : List (List ℕ)) (mates : List (Option ℕ)) (x y : ℕ) → Decided (RoomBlocks rows mates x y)
Decided-blocks rows mates x y =
    Decided-map (λ w. record { acceptable = w.0; first_gains = w.1.0; second_gains = w.1.1 }) (λ b. (b.acceptable, (b.first_gains, b.second_gains)))
    (Decided-and (Decided-acceptable rows x y) (Decided-and (Decided-lt (place_of rows x y) (place_of_mate rows x (mate_of mates x))) (Decided-lt (place_of rows y x) (place_of_mate rows y (mate_of mates y)))))

Decided-stable : (rows : List (List ℕ)) (mates : List (Option ℕ)) → Decided (IsRoomStable rows mates)
Decided-stable rows mates =
    Decided-map (λ w. record {
      matching = w.0;
      unblocked = λ x y b. w.1 (record { one = x; below = inside_rows rows x y b.acceptable; two = y; within = inside_rows rows y x (turn rows x y b.acceptable); holds = b });
    }) (λ s. (s.matching, λ p. s.unblocked p.one p.two p.holds))
    (Decided-and (Decided-matching rows mates) (Decided-not (Decided-pair (length rows) (length rows) (RoomBlocks rows mates) (Decided-blocks rows mates))))

-- A vector names the matching whose ranks it may have.

-- whom a rank on x's list names
abbrev mate_at : List (List ℕ) → ℕ → ℕ → Option ℕ
mate_at rows x rank = if nat_le rank (length (row rows x)) then Some (entry rows x (rank - 1)) else None

abbrev mates_of : List (List ℕ) → List ℕ → List (Option ℕ)
mates_of rows v = map (λ x. mate_at rows x (slice_index v x)) (agents rows)

named : (rows : List (List ℕ)) (mates : List (Option ℕ)) → IsRoomMatching rows mates → (x : ℕ) (o : Option ℕ) → mate_of mates x ≡ o → mate_at rows x (place_of_mate rows x o + 1) ≡ o
named rows mates m x None e =
    ap (λ t. if t then Some (entry rows x (length (row rows x) + 1 - 1)) else None) (lt-leb (length (row rows x) + 1) (length (row rows x)) (omega arith))
named rows mates m x (Some y) e =
    let a = m.acceptable x y e in
    let same : place_of rows x y + 1 - 1 ≡ place_of rows x y = omega arith in
    ap (λ t. if t then Some (entry rows x (place_of rows x y + 1 - 1)) else None) (le-leb (place_of rows x y + 1) (length (row rows x)) (omega (arith, a.listed)))
    ∙ ap Some (ap (entry rows x) same ∙ entry-place_of rows x y a.listed)

-- the rank vector of a matching names it
mates_again : {rows : List (List ℕ)} {mates : List (Option ℕ)} → IsRoomMatching rows mates → mates_of rows (room_vector rows mates) ≡ mates
mates_again {rows} {mates} m =
    let n = length rows in
    let v = room_vector rows mates in
    let long = length-map-range_with_len (λ x. mate_at rows x (slice_index v x)) 0 n in
    ext_get_or None (mates_of rows v) mates (long ∙ sym m.one_each) (λ x l.
    let inside : x < n = omega (arith, l, long) in
    get_or-map-range_with_len (λ x. mate_at rows x (slice_index v x)) 0 n x x None inside (omega arith)
    ∙ ap (mate_at rows x) (get_or-map-range_with_len (λ x. room_rank rows mates x) 0 n x x 0 inside (omega arith))
    ∙ named rows mates m x (mate_of mates x) refl)

-- the persons in order are an order
at_range : (n i : ℕ) → i < n → slice_index (range_with_len 0 n) i ≡ i
at_range n i l = let e = get_or-range_with_len 0 n i 0 l in omega arith

is_order : (n : ℕ) → IsOrder n (range_with_len 0 n)
is_order n = record {
  long = length-range_with_len 0 n;
  in_range = λ j l. let inside : j < n = omega (arith, l, length-range_with_len 0 n) in omega (arith, at_range n j inside, inside);
  each = λ p l. (p, omega (arith, l, length-range_with_len 0 n), at_range n p l);
}

-- whether two vectors are the same is decided
Decided-same : {n : ℕ} {order : List ℕ} → IsOrder n order → (v w : List ℕ) → length v ≡ n → length w ≡ n → Decided (v ≡ w)
Decided-same {n} {order} o v w a b = elim (compared order v w) [
  | Less h ↦ inr (λ e. irreflexive order w (subst (λ u. IsBefore order u w) e h))
  | More h ↦ inr (λ e. irreflexive order v (subst (λ u. IsBefore order u v) (sym e) h))
  | Alike h ↦ inl (alike_equal o v w a b h)
]

-- so whether a vector is one of a stable matching is
Decided-vector : (rows : List (List ℕ)) (v : List ℕ) → length v ≡ length rows → Decided (IsRoomVector rows v)
Decided-vector rows v long =
    Decided-map (λ w. record { matching = mates_of rows v; stable = w.0; vector = w.1 })
    (λ a.
    let again : mates_of rows v ≡ a.matching = ap (mates_of rows) a.vector ∙ mates_again a.stable.matching in
    (subst (IsRoomStable rows) (sym again) a.stable, a.vector ∙ ap (room_vector rows) (sym again)))
    (Decided-and (Decided-stable rows (mates_of rows v)) (Decided-same (is_order (length rows)) v (room_vector rows (mates_of rows v)) long (length-map-range_with_len (λ x. room_rank rows (mates_of rows v) x) 0 (length rows))))

-- The first of the vectors of numbers below bounds.

-- each number is below its bound
abbrev IsBelow : (ℕ → ℕ) → List ℕ → Type 0
IsBelow b v = (x : ℕ) → x < length v → slice_index v x < b x

-- the first of those for which something holds
record LeastBelow (n : ℕ) (b : ℕ → ℕ) (P : List ℕ → Type 0) : Type 0 where
  vector : List ℕ
  long : length vector ≡ n
  below : IsBelow b vector
  holds : P vector
  least : (w : List ℕ) → length w ≡ n → IsBelow b w → P w → (vector ≡ w) ⊎ IsBefore (range_with_len 0 n) vector w

abbrev NoneBelow : ℕ → (ℕ → ℕ) → (List ℕ → Type 0) → Type 0
NoneBelow n b P = (w : List ℕ) → length w ≡ n → IsBelow b w → P w → ⊥

empty : (w : List ℕ) → length w ≡ 0 → w ≡ []
empty [] e = refl
empty (x ∷ xs) e = absurd (omega (arith, e))

below_cons : (b : ℕ → ℕ) (k : ℕ) (v : List ℕ) → k < b 0 → IsBelow (λ x. b (suc x)) v → IsBelow b (k ∷ v)
below_cons b k v less rest zero l = less
below_cons b k v less rest (suc x) l = rest x (omega (arith, l))

-- a vector goes before another with the same first number as it does without it
before_cons : (n k : ℕ) (v w : List ℕ) → IsBefore (range_with_len 0 n) v w → IsBefore (range_with_len 0 (suc n)) (k ∷ v) (k ∷ w)
before_cons n k v w h = record { at = suc h.at; within = omega (arith, inside, length-range_with_len 0 (suc n)); smaller = smaller; alike = alike }
  where
    inside : h.at < n
    inside = omega (arith, h.within, length-range_with_len 0 n)

    smaller : slice_index (k ∷ v) (slice_index (range_with_len 0 (suc n)) (suc h.at)) < slice_index (k ∷ w) (slice_index (range_with_len 0 (suc n)) (suc h.at))
    smaller = subst (λ i. slice_index (k ∷ v) i < slice_index (k ∷ w) i) (sym (at_range (suc n) (suc h.at) (omega (arith, inside)))) (subst (λ i. slice_index v i < slice_index w i) (at_range n h.at inside) h.smaller)

    alike : (j : ℕ) → j < suc h.at → slice_index (k ∷ v) (slice_index (range_with_len 0 (suc n)) j) ≡ slice_index (k ∷ w) (slice_index (range_with_len 0 (suc n)) j)
    alike zero l = subst (λ i. slice_index (k ∷ v) i ≡ slice_index (k ∷ w) i) (sym (at_range (suc n) 0 (omega arith))) refl
    alike (suc j) l =
        let earlier : j < h.at = omega (arith, l) in
        subst (λ i. slice_index (k ∷ v) i ≡ slice_index (k ∷ w) i) (sym (at_range (suc n) (suc j) (omega (arith, inside, earlier))))
        (subst (λ i. slice_index v i ≡ slice_index w i) (at_range n j (omega (arith, inside, earlier))) (h.alike j earlier))

-- and before one with a greater first number
before_first : (n k j : ℕ) (v w : List ℕ) → k < j → IsBefore (range_with_len 0 (suc n)) (k ∷ v) (j ∷ w)
before_first n k j v w less = record {
  at = 0;
  within = omega (arith, length-range_with_len 0 (suc n));
  smaller = subst (λ i. slice_index (k ∷ v) i < slice_index (j ∷ w) i) (sym (at_range (suc n) 0 (omega arith))) less;
  alike = λ i l. absurd (omega (arith, l));
}

-- the first one, where the first ones behind each first number are known
by_first : (n : ℕ) (b : ℕ → ℕ) (P : List ℕ → Type 0) → ((k : ℕ) → LeastBelow n (λ x. b (suc x)) (λ s. P (k ∷ s)) ⊎ NoneBelow n (λ x. b (suc x)) (λ s. P (k ∷ s)))
    → LeastBelow (suc n) b P ⊎ NoneBelow (suc n) b P
by_first n b P rest = go (search_below (b 0) (λ k. LeastBelow n (λ x. b (suc x)) (λ s. P (k ∷ s))) (λ k l. known k))
  where
    known : (k : ℕ) → Decided (LeastBelow n (λ x. b (suc x)) (λ s. P (k ∷ s)))
    known k = elim (rest k) [ inl x ↦ inl x | inr none ↦ inr (λ x. none x.vector x.long x.below x.holds) ]

    nothing : (k : ℕ) (s : List ℕ) → (LeastBelow n (λ x. b (suc x)) (λ s. P (k ∷ s)) → ⊥) → length (k ∷ s) ≡ suc n → IsBelow b (k ∷ s) → P (k ∷ s) → ⊥
    nothing k s none long below p = elim (rest k) [ inl x ↦ none x | inr no_rest ↦ no_rest s (omega (arith, long)) (λ x l. below (suc x) (omega (arith, l))) p ]

    joined : (k : ℕ) (v s : List ℕ) → (v ≡ s) ⊎ IsBefore (range_with_len 0 n) v s → (k ∷ v ≡ k ∷ s) ⊎ IsBefore (range_with_len 0 (suc n)) (k ∷ v) (k ∷ s)
    joined k v s (inl e) = inl (ap (λ t. k ∷ t) e)
    joined k v s (inr h) = inr (before_cons n k v s h)

    least : (f : First (b 0) (λ k. LeastBelow n (λ x. b (suc x)) (λ s. P (k ∷ s)))) → (w : List ℕ) → length w ≡ suc n → IsBelow b w → P w
        → (f.at ∷ f.holds.vector ≡ w) ⊎ IsBefore (range_with_len 0 (suc n)) (f.at ∷ f.holds.vector) w
    least f [] long below p = absurd (omega (arith, long))
    least f (j ∷ s) long below p = elim (less_same_more j f.at) [
      | inl less ↦ absurd (nothing j s (f.earlier j less) long below p)
      | inr (inl e) ↦
          subst (λ i. (f.at ∷ f.holds.vector ≡ i ∷ s) ⊎ IsBefore (range_with_len 0 (suc n)) (f.at ∷ f.holds.vector) (i ∷ s)) (sym e)
          (joined f.at f.holds.vector s (f.holds.least s (omega (arith, long)) (λ x l. below (suc x) (omega (arith, l))) (subst (λ i. P (i ∷ s)) e p)))
      | inr (inr more) ↦ inr (before_first n f.at j f.holds.vector s more)
    ]

    none_at_all : ((k : ℕ) → k < b 0 → LeastBelow n (λ x. b (suc x)) (λ s. P (k ∷ s)) → ⊥) → NoneBelow (suc n) b P
    none_at_all none [] long below p = omega (arith, long)
    none_at_all none (k ∷ s) long below p = nothing k s (none k (below 0 (omega arith))) long below p

    go : First (b 0) (λ k. LeastBelow n (λ x. b (suc x)) (λ s. P (k ∷ s))) ⊎ ((k : ℕ) → k < b 0 → LeastBelow n (λ x. b (suc x)) (λ s. P (k ∷ s)) → ⊥) → LeastBelow (suc n) b P ⊎ NoneBelow (suc n) b P
    go (inl f) = inl (record {
      vector = f.at ∷ f.holds.vector;
      long = ap suc f.holds.long;
      below = below_cons b f.at f.holds.vector f.below f.holds.below;
      holds = f.holds.holds;
      least = least f;
    })
    go (inr none) = inr (none_at_all none)

least_below : (n : ℕ) (b : ℕ → ℕ) (P : List ℕ → Type 0) → ((v : List ℕ) → length v ≡ n → Decided (P v)) → LeastBelow n b P ⊎ NoneBelow n b P
least_below zero b P d = go (d [] refl)
  where
    go : Decided (P []) → LeastBelow 0 b P ⊎ NoneBelow 0 b P
    go (inl p) = inl (record { vector = []; long = refl; below = λ x l. absurd (omega (arith, l)); holds = p; least = λ w long below q. inl (sym (empty w long)) })
    go (inr p) = inr (λ w long below q. p (subst P (empty w long) q))
least_below (suc n) b P d = by_first n b P (λ k. least_below n (λ x. b (suc x)) (λ s. P (k ∷ s)) (λ s long. d (k ∷ s) (ap suc long)))

-- Rank vectors are among these.

rank_within : (rows : List (List ℕ)) (x : ℕ) (o : Option ℕ) → place_of_mate rows x o ≤ length (row rows x)
rank_within rows x None = omega arith
rank_within rows x (Some y) = place_of-le rows x y

room_long : {rows : List (List ℕ)} {v : List ℕ} → IsRoomVector rows v → length v ≡ length rows
room_long {rows} a = ap (λ (w : List ℕ). length w) a.vector ∙ length-map-range_with_len (λ x. room_rank rows a.matching x) 0 (length rows)

-- a rank is at most one more than the list is long
pub room_rank_within : {rows : List (List ℕ)} {v : List ℕ} → IsRoomVector rows v → (x : ℕ) → x < length v → slice_index v x < length (row rows x) + 2
room_rank_within {rows} {v} a x l =
    let inside : x < length rows = omega (arith, l, room_long a) in
    let is : slice_index v x ≡ room_rank rows a.matching x = ap (λ (w : List ℕ). slice_index w x) a.vector ∙ get_or-map-range_with_len (λ x. room_rank rows a.matching x) 0 (length rows) x x 0 inside (omega arith) in
    omega (arith, is, rank_within rows x (mate_of a.matching x))

Decided-behind : (order : List ℕ) (cursor : Option (List ℕ)) (v : List ℕ) → Decided (IsBehind (IsBefore order) cursor v)
Decided-behind order None v = inl tt
Decided-behind order (Some c) v = Decided-before order c v

-- behind each cursor there is a next one, or none
pub room_goes_on : RoomGoesOn
room_goes_on rows cursor = go (least_below (length rows) (λ x. length (row rows x) + 2) (λ v. IsRoomVector rows v × IsBehind (IsBefore (agents rows)) cursor v) (λ v long. Decided-and (Decided-vector rows v long) (Decided-behind (agents rows) cursor v)))
  where
    go : LeastBelow (length rows) (λ x. length (row rows x) + 2) (λ v. IsRoomVector rows v × IsBehind (IsBefore (agents rows)) cursor v)
        ⊎ NoneBelow (length rows) (λ x. length (row rows x) + 2) (λ v. IsRoomVector rows v × IsBehind (IsBefore (agents rows)) cursor v)
        → ((v : List ℕ) × IsNextVector rows cursor v) ⊎ IsNoneLeft rows cursor
    go (inl x) = inl (x.vector, record { one = x.holds.0; behind = x.holds.1; least = λ w one b. x.least w (room_long one) (room_rank_within one) (one, b) })
    go (inr none) = inr (λ v one b. none v (room_long one) (room_rank_within one) (one, b))

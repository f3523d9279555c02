-- Lists of edges in order, with different ends.
use Rattle.std.proofs.Common.{◌≡◌, ℕ, ◌+◌, ◌-◌, ◌<◌, ◌≤◌, inl, inr, arith, refl, sym, ap, ◌∙◌, subst, false, List, [], ◌∷◌, ◌++◌, length, map, take, Option, None, Some, nat_cmp, is_lt, Ordering, Contains, IsPermutation, get_or}
use Rattle.std.specs.Ordering.{ordering_then}
use Rattle.std.specs.Option.{option_cmp}
use Rattle.std.proofs.lemmas.Bool.{false≢true}
use Rattle.std.proofs.lemmas.Cmp.{ranked, by_ranked}
use Rattle.std.proofs.lemmas.List.{length-map, map_more, get_or_append_left, get_or_push, get_or_default, length_push}
use Rattle.std.proofs.lemmas.List.Sums.{sum_by_push, sum_by_more, sum_by-cons}
use Rattle.std.proofs.lemmas.List.Sorted.{length_permutation, sum_by-IsPermutation, Contains-permutation, IsPermutation-sym}
use Rattle.sm_lists.proofs.Counting.{lt_or_le, eq_or_ne}
use Rattle.sm_flow.specs.Graph.{edge_count, room_sum, bounded_part, with_edge}
use Rattle.sm_flow.specs.declared.net.Edge.{Edge as GraphEdge}
use Rattle.sm_weight.specs.declared.edges.Edge.{Edge}
use Rattle.sm_weight.specs.Edges.{edge_at, graph_edge, graph_of, room_in, room_size, room_total, HaveSameEnds, IsEdgeBefore, IsEdgeUpTo, AreEdgesInOrder, AreEdgesRising, IsCovered, AreMerged}

-- what the order of edges says
not_below : (x y : Edge) → is_lt (ordering_then (nat_cmp y.from x.from) (ordering_then (nat_cmp y.to x.to) (option_cmp nat_cmp y.room x.room))) ≡ false → IsEdgeUpTo x y
not_below x y = by_ranked (y.from < x.from) (y.from ≡ x.from) (x.from < y.from) (nat_cmp y.from x.from) (ranked y.from x.from _ refl)
    (λ e less h. absurd (false≢true (sym h ∙ ap (λ o. is_lt (ordering_then o rest)) e)))
    (λ e same h. second same (ap (λ o. is_lt (ordering_then o rest)) (sym e) ∙ h))
    (λ e more h. inl (inl more))
  where
    rest : Ordering
    rest = ordering_then (nat_cmp y.to x.to) (option_cmp nat_cmp y.room x.room)

    rooms : (a b : Option ℕ) → is_lt (option_cmp nat_cmp a b) ≡ false → a ≡ None → b ≡ None
    rooms None None h e = refl
    rooms None (Some n) h e = absurd (false≢true (sym h))
    rooms (Some n) b h e = absurd (grind (arith, e))

    second : y.from ≡ x.from → is_lt (ordering_then (nat_cmp y.to x.to) (option_cmp nat_cmp y.room x.room)) ≡ false → IsEdgeUpTo x y
    second same = by_ranked (y.to < x.to) (y.to ≡ x.to) (x.to < y.to) (nat_cmp y.to x.to) (ranked y.to x.to _ refl)
        (λ e less h. absurd (false≢true (sym h ∙ ap (λ o. is_lt (ordering_then o (option_cmp nat_cmp y.room x.room))) e)))
        (λ e also h. inr ((sym same, sym also), rooms y.room x.room (ap (λ o. is_lt (ordering_then o (option_cmp nat_cmp y.room x.room))) (sym e) ∙ h)))
        (λ e more h. inl (inr (sym same, more)))

-- where no neighbours compare the wrong way round, the edges are in order
pub in_order : (edges : List Edge) → ((k : ℕ) (d : Edge) → 0 ≤ k → k + 1 < length edges
    → is_lt (ordering_then (nat_cmp (get_or edges (k + 1) d).from (get_or edges k d).from) (ordering_then (nat_cmp (get_or edges (k + 1) d).to (get_or edges k d).to) (option_cmp nat_cmp (get_or edges (k + 1) d).room (get_or edges k d).room))) ≡ false)
    → AreEdgesInOrder edges
in_order edges sorted k less = not_below (edge_at edges k) (edge_at edges (k + 1)) (sorted k (record { from = 0; to = 0; room = None }) (omega arith) less)

before_trans : (x y z : Edge) → IsEdgeBefore x y → IsEdgeBefore y z → IsEdgeBefore x z
before_trans x y z (inl a) (inl b) = inl (omega arith)
before_trans x y z (inl a) (inr b) = inl (omega (arith, b.0))
before_trans x y z (inr a) (inl b) = inl (omega (arith, a.0))
before_trans x y z (inr a) (inr b) = inr (a.0 ∙ b.0, omega (arith, a.1, b.1))

before_like : (x y z : Edge) → HaveSameEnds x y → IsEdgeBefore y z → IsEdgeBefore x z
before_like x y z same (inl b) = inl (omega (arith, same.0))
before_like x y z same (inr b) = inr (same.0 ∙ b.0, omega (arith, same.1, b.1))

contains_at : (xs : List Edge) (a : ℕ) → a < length xs → Contains xs (edge_at xs a)
contains_at xs a less = (a, less, get_or_default xs a (edge_at xs a) _ less)

-- the first of the first i edges with each two ends
pub record IsOnce (edges once : List Edge) (i : ℕ) : Type 0 where
  pub few : length once ≤ i
  pub rising : AreEdgesRising once
  pub among : (a : ℕ) → a < length once → Contains edges (edge_at once a)
  pub covers : (c : ℕ) → c < i → IsCovered once (edge_at edges c)
  pub some : 0 < i → 0 < length once
  pub last : 0 < i → HaveSameEnds (edge_at once (length once - 1)) (edge_at edges (i - 1))
  pub small : room_total once ≤ room_total (take i edges)

-- of no edges none is taken
pub once_start : (edges : List Edge) → IsOnce edges [] 0
once_start edges = record {
  few = omega arith;
  rising = λ a b less few. absurd (omega arith);
  among = λ a less. absurd (omega arith);
  covers = λ c less. absurd (omega arith);
  some = λ less. absurd (omega arith);
  last = λ less. absurd (omega arith);
  small = omega arith;
}

totals : (edges : List Edge) (i : ℕ) → i < length edges → room_total (take (i + 1) edges) ≡ room_total (take i edges) + room_size (edge_at edges i).room
totals edges i less = sum_by_more (λ (e : Edge). room_size e.room) edges i (record { from = 0; to = 0; room = None }) less

-- an edge with new ends
pub once_new : {edges once : List Edge} (i : ℕ) → AreEdgesInOrder edges → IsOnce edges once i → i < length edges
    → (0 < i → HaveSameEnds (edge_at edges (i - 1)) (edge_at edges i) → ⊥) → IsOnce edges (once ++ edge_at edges i ∷ []) (i + 1)
once_new {edges} {once} i order w less new = record {
  few = omega (arith, long, w.few);
  rising = λ a b x y. elim (lt_or_le b (length once)) [
    | inl k ↦ subst (λ e. IsEdgeBefore e (edge_at more b)) (sym (old a (omega arith))) (subst (λ e. IsEdgeBefore (edge_at once a) e) (sym (old b k)) (w.rising a b x k))
    | inr k ↦ subst (λ e. IsEdgeBefore e (edge_at more b)) (sym (old a (omega (arith, long)))) (subst (λ e. IsEdgeBefore (edge_at once a) e) (sym (at b (omega (arith, long)))) (up a (omega (arith, long))))
  ];
  among = λ a x. elim (lt_or_le a (length once)) [
    | inl k ↦ subst (Contains edges) (sym (old a k)) (w.among a k)
    | inr k ↦ subst (Contains edges) (sym (at a (omega (arith, long)))) (contains_at edges i less)
  ];
  covers = λ c x. elim (lt_or_le c i) [
    | inl k ↦ let v = w.covers c k in record { at = v.at; there = omega (arith, long, v.there); ends = subst (λ e. HaveSameEnds e (edge_at edges c)) (sym (old v.at v.there)) v.ends; unbounded = λ none. ap (λ (e : Edge). e.room) (old v.at v.there) ∙ v.unbounded none }
    | inr k ↦
        let same : c ≡ i = omega arith in
        let here : edge_at more (length once) ≡ edge_at edges c = at (length once) refl ∙ ap (edge_at edges) (sym same) in
        record { at = length once; there = omega (arith, long); ends = (ap (λ (e : Edge). e.from) here, ap (λ (e : Edge). e.to) here); unbounded = λ none. ap (λ (e : Edge). e.room) here ∙ none }
  ];
  some = λ _. omega (arith, long);
  last = λ _.
      let here : edge_at more (length more - 1) ≡ edge_at edges (i + 1 - 1) = at (length more - 1) (omega (arith, long)) ∙ ap (edge_at edges) (let e : i ≡ i + 1 - 1 = omega arith in e) in
      (ap (λ (e : Edge). e.from) here, ap (λ (e : Edge). e.to) here);
  small = omega (arith, totals edges i less, sum_by_push (λ (e : Edge). room_size e.room) once (edge_at edges i), w.small);
}
  where
    more : List Edge
    more = once ++ edge_at edges i ∷ []

    long : length more ≡ length once + 1
    long = length_push once (edge_at edges i)

    old : (a : ℕ) → a < length once → edge_at more a ≡ edge_at once a
    old a k = get_or_append_left once (edge_at edges i ∷ []) (record { from = 0; to = 0; room = None }) a k

    at : (a : ℕ) → length once ≡ a → edge_at more a ≡ edge_at edges i
    at a k = get_or_push once (edge_at edges i) (record { from = 0; to = 0; room = None }) a k

    -- the last one is before the new one
    top : 0 < i → IsEdgeBefore (edge_at once (length once - 1)) (edge_at edges i)
    top some =
        let e : i - 1 + 1 ≡ i = omega arith in
        go (subst (λ j. IsEdgeUpTo (edge_at edges (i - 1)) (edge_at edges j)) e (order (i - 1) (omega arith)))
      where
        go : IsEdgeUpTo (edge_at edges (i - 1)) (edge_at edges i) → IsEdgeBefore (edge_at once (length once - 1)) (edge_at edges i)
        go (inl b) = before_like (edge_at once (length once - 1)) (edge_at edges (i - 1)) (edge_at edges i) (w.last some) b
        go (inr b) = absurd (new some b.0)

    up : (a : ℕ) → a < length once → IsEdgeBefore (edge_at once a) (edge_at edges i)
    up a k = elim (eq_or_ne a (length once - 1)) [
      | inl e ↦ subst (λ b. IsEdgeBefore (edge_at once b) (edge_at edges i)) (sym e) (top (omega (arith, w.few)))
      | inr ne ↦ before_trans (edge_at once a) (edge_at once (length once - 1)) (edge_at edges i) (w.rising a (length once - 1) (omega arith) (omega arith)) (top (omega (arith, w.few)))
    ]

-- one with the ends of the last one
pub once_same : {edges once : List Edge} (i : ℕ) → AreEdgesInOrder edges → IsOnce edges once i → i < length edges
    → 0 < i → HaveSameEnds (edge_at edges (i - 1)) (edge_at edges i) → IsOnce edges once (i + 1)
once_same {edges} {once} i order w less some same = record {
  few = omega (arith, w.few);
  rising = w.rising;
  among = w.among;
  covers = λ c x. elim (lt_or_le c i) [
    | inl k ↦ w.covers c k
    | inr k ↦ subst (λ j. IsCovered once (edge_at edges j)) (let e : i ≡ c = omega arith in e) (covered (w.covers (i - 1) (omega arith)))
  ];
  some = λ _. w.some some;
  last = λ _. subst (λ j. HaveSameEnds (edge_at once (length once - 1)) (edge_at edges j)) (let e : i ≡ i + 1 - 1 = omega arith in e) ((w.last some).0 ∙ same.0, (w.last some).1 ∙ same.1);
  small = omega (arith, totals edges i less, w.small);
}
  where
    rooms : IsEdgeUpTo (edge_at edges (i - 1)) (edge_at edges i) → (edge_at edges i).room ≡ None → (edge_at edges (i - 1)).room ≡ None
    rooms (inr b) none = b.1 none
    rooms (inl (inl b)) none = absurd (omega (arith, same.0))
    rooms (inl (inr b)) none = absurd (omega (arith, same.1, b.1))

    covered : IsCovered once (edge_at edges (i - 1)) → IsCovered once (edge_at edges i)
    covered v =
        let e : i - 1 + 1 ≡ i = omega arith in
        record {
          at = v.at;
          there = v.there;
          ends = (v.ends.0 ∙ same.0, v.ends.1 ∙ same.1);
          unbounded = λ none. v.unbounded (rooms (subst (λ j. IsEdgeUpTo (edge_at edges (i - 1)) (edge_at edges j)) e (order (i - 1) (omega arith))) none);
        }

-- once all edges are looked at, those that were taken are the edges with different ends
pub once_all : {edges once : List Edge} (i : ℕ) → i ≡ length edges → take i edges ≡ edges → IsOnce edges once i → AreMerged edges once
once_all {edges} {once} i end whole w = record {
  rising = w.rising;
  among = w.among;
  covered = λ e c. subst (IsCovered once) (get_or_default edges c.0 (record { from = 0; to = 0; room = None }) e c.1 ∙ c.2) (w.covers c.0 (omega (arith, c.1)));
  short = omega (arith, w.few);
  small = omega (arith, w.small, ap room_total whole);
}

-- the same edges in another order
pub merged_of : {edges sorted once : List Edge} → IsPermutation edges sorted → AreMerged sorted once → AreMerged edges once
merged_of {edges} {sorted} {once} p w = record {
  rising = w.rising;
  among = λ a less. Contains-permutation sorted edges (edge_at once a) (IsPermutation-sym edges sorted p) (w.among a less);
  covered = λ e c. w.covered e (Contains-permutation edges sorted e p c);
  short = omega (arith, w.short, length_permutation edges sorted p);
  small = omega (arith, w.small, sum_by-IsPermutation (λ (e : Edge). room_size e.room) edges sorted p);
}

-- the graph of some edges
pub edge_count-graph_of : (nodes : ℕ) (edges : List Edge) → edge_count (graph_of nodes edges) ≡ length edges
edge_count-graph_of nodes edges = length-map edges graph_edge

part_is : (room : Option ℕ) → bounded_part (room_in room) ≡ room_size room
part_is None = refl
part_is (Some n) = refl

-- the rooms of the graph sum up to those of its edges
pub room_sum-graph_of : (nodes : ℕ) (edges : List Edge) → room_sum (graph_of nodes edges) ≡ room_total edges
room_sum-graph_of nodes [] = refl
room_sum-graph_of nodes (e ∷ es) = omega (
  arith,
  sum_by-cons (λ (e : GraphEdge). bounded_part e.room) (graph_edge e) (map graph_edge es),
  sum_by-cons (λ (e : Edge). room_size e.room) e es,
  part_is e.room,
  room_sum-graph_of nodes es,
)

-- the sum of the first i rooms and the next is that of the first i + 1
pub part_more : (edges : List Edge) (i : ℕ) → i < length edges → room_total (take i edges) + bounded_part (room_in (edge_at edges i).room) ≡ room_total (take (i + 1) edges)
part_more edges i less = omega (arith, totals edges i less, part_is (edge_at edges i).room)

-- the graph of the first i edges with the next one is that of the first i + 1
pub with_edge-graph_of : (nodes : ℕ) (edges : List Edge) (i : ℕ) → i < length edges → with_edge (graph_of nodes (take i edges)) (graph_edge (edge_at edges i)) ≡ graph_of nodes (take (i + 1) edges)
with_edge-graph_of nodes edges i less = ap (λ es. record { nodes = nodes; edges = es }) (sym (map_more graph_edge edges i (record { from = 0; to = 0; room = None }) less))

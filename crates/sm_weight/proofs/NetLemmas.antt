-- The edges of gains, needs and conditions are those of their net.
use Rattle.std.proofs.Common.{◌≡◌, ◌≢◌, ℕ, zero, suc, ◌+◌, ◌<◌, ◌≤◌, ◌⊎◌, ◌&&◌, ◌||◌, ◌==◌, inl, inr, arith, refl, sym, ap, ◌∙◌, subst, Bool, true, false, List, [], ◌∷◌, ◌++◌, length, map, slice_index, get_or, eqb-true, eq-eqb, ne_eqb, Contains, ℤ, pos}
use Rattle.std.specs.Prelude.{All}
use Rattle.std.specs.List.{list_any, flat_map, position_or_len}
use Rattle.std.proofs.lemmas.Bool.{false≢true, and_from, or_left, or_right, false_from_ne_true, not_from_false}
use Rattle.std.proofs.lemmas.List.{get_or_past, get_or_default, get_or-map, length-map}
use Rattle.std.proofs.lemmas.List.Elements.{All-append, Contains-append_left, Contains-append_right}
use Rattle.std.proofs.lemmas.List.Sums.{prefix_len-le-length}
use Rattle.sm_lists.proofs.Counting.{lt_or_le, eq_or_ne}
use Rattle.sm_market.specs.Lists.{Lists, row}
use Rattle.sm_market.specs.Matching.{Places, held}
use Rattle.sm_theory.specs.Chains.{rotation_at, AreNeedsOf, AreNeeds}
use Rattle.sm_theory.specs.Weights.{gain_of}
use Rattle.sm_theory.specs.Net.{Net, room_of, IsUnbounded}
use Rattle.sm_theory.specs.Conditions.{has_level, moves_to, moves_off, entry_node, exit_node, forces, forbids, leads_to_need, rise_of, fall_of, allows_nothing, net_of}
use Rattle.sm_theory.proofs.Net.Tests.{and_parts, or_parts, not_parts, not_same, Passes, some_passes}
use Rattle.sm_weight.specs.declared.edges.Edge.{Edge}
use Rattle.sm_weight.specs.Edges.{loose, AreMerged, AreEdges}
use Rattle.sm_weight.specs.Net.{joined, need_edges, gain_edges, forced_edges, forbidden_edges, raw_edges}
use Rattle.sm_weight.specs.Second.{gain_at}
use Rattle.sm_weight.proofs.MergedLemmas.{all_joined, in_joined, in_single, all_single, free, IsRaw, IsThere, edges_of_raw, gains_sound, gain_there}

-- an element that passes a test
pub any_at : {X : Type 0} (test : X → Bool) (xs : List X) (k : ℕ) (d : X) → k < length xs → test (get_or xs k d) ≡ true → list_any test xs ≡ true
any_at test [] k d less e = absurd (omega arith)
any_at test (x ∷ xs) zero d less e = or_left (test x) (list_any test xs) e
any_at test (x ∷ xs) (suc k) d less e = or_right (test x) (list_any test xs) (any_at test xs k d (omega arith) e)

none_at : {X : Type 0} (test : X → Bool) (xs : List X) (k : ℕ) (d : X) → k < length xs → list_any test xs ≡ false → test (get_or xs k d) ≡ true → ⊥
none_at test xs k d less none e = false≢true (sym none ∙ any_at test xs k d less e)

-- what holds of all edges of lists that are put together, and what they contain
all_flat : {X : Type 0} (P : Edge → Type 0) (f : X → List Edge) (xs : List X) (d : X) → ((k : ℕ) → k < length xs → All P (f (get_or xs k d))) → All P (flat_map f xs)
all_flat P f [] d all = λ k e less. absurd (omega arith)
all_flat P f (x ∷ xs) d all = All-append P (f x) (flat_map f xs) (all 0 (omega arith)) (all_flat P f xs d (λ k less. all (suc k) (omega arith)))

in_flat : {X : Type 0} (f : X → List Edge) (xs : List X) (k : ℕ) (d : X) (e : Edge) → k < length xs → Contains (f (get_or xs k d)) e → Contains (flat_map f xs) e
in_flat f [] k d e less c = absurd (omega arith)
in_flat f (x ∷ xs) zero d e less c = Contains-append_left (f x) (flat_map f xs) e c
in_flat f (x ∷ xs) (suc k) d e less c = Contains-append_right (f x) (flat_map f xs) e (in_flat f xs k d e (omega arith) c)

-- an edge that is no loop
all_loose : (P : Edge → Type 0) (i j : ℕ) → (i ≢ j → P (free i j)) → All P (loose i j)
all_loose P i j one = go (eq_or_ne i j)
  where
    go : (i ≡ j) ⊎ (i ≢ j) → All P (loose i j)
    go (inl e) = rw (eq-eqb i j e) (λ k d less. absurd (omega arith))
    go (inr ne) = rw (ne_eqb i j ne) (all_single P (free i j) (one ne))

in_loose : (i j : ℕ) → i ≢ j → Contains (loose i j) (free i j)
in_loose i j ne = rw (ne_eqb i j ne) (in_single (free i j))

-- the first place that passes is on the list, or one past it
first_le : {X : Type 0} (test : X → Bool) (xs : List X) → position_or_len test xs ≤ length xs
first_le test xs = prefix_len-le-length _ xs

-- the gains of the rotations
pub gains_at : (l : Lists) (weights : List (List ℤ)) (rotations : List (List (ℕ × ℕ))) (gains : List ℤ) → gains ≡ map (gain_of l weights) rotations → (k : ℕ) → gain_at gains k ≡ gain_of l weights (rotation_at rotations k)
gains_at l weights rotations gains e k = ap (λ (g : List ℤ). gain_at g k) e ∙ elim (lt_or_le k (length rotations)) [
  | inl less ↦ get_or-map (gain_of l weights) rotations k [] (pos 0) less
  | inr past ↦ get_or_past (map (gain_of l weights) rotations) k (pos 0) (omega (arith, length-map rotations (gain_of l weights))) ∙ sym (ap (gain_of l weights) (get_or_past rotations k [] past))
]

-- the numbers that a rising list of predecessors contains
same_needs : {l : Lists} {rotations : List (List (ℕ × ℕ))} {j : ℕ} {needs kept : List ℕ} → AreNeedsOf l rotations j needs → AreNeedsOf l rotations j kept → (a : ℕ) → a < length kept → list_any (λ i. i == slice_index kept a) needs ≡ true
same_needs {l} {rotations} {j} {needs} {kept} w v a less =
    let c = w.all (slice_index kept a) (v.sound a less) (v.each a less) in
    any_at (λ i. i == slice_index kept a) needs c.0 0 c.1 (eq-eqb _ _ (sym (get_or_default needs c.0 (slice_index kept a) 0 c.1) ∙ c.2))

module _ (l : Lists) (levels : List (List ℕ)) (weights : List (List ℤ)) (forced forbidden : List (ℕ × ℕ)) (first : Places) (rotations : List (List (ℕ × ℕ))) (needs : List (List ℕ)) where
  abbrev n : ℕ
  n = length rotations

  abbrev net : Net
  net = net_of l levels weights forced forbidden first rotations needs

  abbrev entry : ℕ × ℕ → ℕ
  entry c = entry_node l levels first rotations c.0 c.1

  abbrev exit : ℕ × ℕ → ℕ
  exit c = exit_node l levels rotations c.0 c.1

  abbrev edge : ℕ → ℕ → Bool
  edge i j = leads_to_need needs i j || (list_any (λ c. forces l levels first rotations c i j) forced || list_any (λ c. forbids l levels first rotations c i j) forbidden)

  entry_le : (c : ℕ × ℕ) → entry c ≤ suc n
  entry_le c = go (has_level levels c.0 c.1 (held first.proposers c.0)) refl
    where
      go : (b : Bool) → has_level levels c.0 c.1 (held first.proposers c.0) ≡ b → entry c ≤ suc n
      go true e = rw e (omega arith)
      go false e = rw e (omega (arith, first_le (moves_to l levels c.0 c.1) rotations))

  exit_le : (c : ℕ × ℕ) → exit c ≤ suc n
  exit_le c = omega (arith, first_le (moves_off l levels c.0 c.1) rotations)

  exit_some : (c : ℕ × ℕ) → 0 < exit c
  exit_some c = omega arith

  -- an unbounded edge, by its test
  unbounded_of : (i j : ℕ) → i ≢ j → 0 < j → ((i ≡ 0) × (j ≡ suc n) → ⊥) → edge i j ≡ true → IsUnbounded net i j
  unbounded_of i zero ne some across e = absurd (omega arith)
  unbounded_of i (suc k) ne some across e =
      and_from _ _ (not_same i (suc k) ne) (and_from _ _ (not_from_false _ (false_from_ne_true (i == 0 && suc k == suc n) (λ x. let w = and_parts _ _ x in across (eqb-true i 0 w.0, eqb-true (suc k) (suc n) w.1)))) e)

  of_need : (i j : ℕ) → leads_to_need needs i j ≡ true → edge i j ≡ true
  of_need i j e = or_left (leads_to_need needs i j) (list_any (λ c. forces l levels first rotations c i j) forced || list_any (λ c. forbids l levels first rotations c i j) forbidden) e

  of_forced : (i j : ℕ) → list_any (λ c. forces l levels first rotations c i j) forced ≡ true → edge i j ≡ true
  of_forced i j e = or_right (leads_to_need needs i j) _ (or_left (list_any (λ c. forces l levels first rotations c i j) forced) (list_any (λ c. forbids l levels first rotations c i j) forbidden) e)

  of_forbidden : (i j : ℕ) → list_any (λ c. forbids l levels first rotations c i j) forbidden ≡ true → edge i j ≡ true
  of_forbidden i j e = or_right (leads_to_need needs i j) _ (or_right (list_any (λ c. forces l levels first rotations c i j) forced) (list_any (λ c. forbids l levels first rotations c i j) forbidden) e)

  record Parts (i j : ℕ) : Type 0 where
    apart_is : i ≢ j
    some : 0 < j
    tested : edge i j ≡ true

  parts_of : (i j : ℕ) → IsUnbounded net i j → Parts i j
  parts_of i zero u = absurd (false≢true u)
  parts_of i (suc k) u =
      let w = and_parts _ _ u in
      record { apart_is = λ x. false≢true (sym (not_parts _ w.0) ∙ eq-eqb i (suc k) x); some = omega arith; tested = (and_parts _ _ w.1).1 }

  module _ (allowed : allows_nothing l levels forced forbidden first rotations ≡ false) (gains : List ℤ) (gains_are : gains ≡ map (gain_of l weights) rotations) (kept : List (List ℕ)) (are : AreNeeds l rotations needs) (same : AreNeeds l rotations kept) where
    abbrev raw : List Edge
    raw = raw_edges l levels forced forbidden first rotations kept gains

    gains_many : length gains ≡ n
    gains_many = ap length gains_are ∙ length-map rotations (gain_of l weights)

    -- the rooms of the net are those of the gains
    falls : (k : ℕ) → k < n → net.supply k ≡ fall_of (gain_at gains k)
    falls k _ = ap fall_of (sym (gains_at l weights rotations gains gains_are k))

    rises : (k : ℕ) → net.drain k ≡ rise_of (gain_at gains k)
    rises k = ap rise_of (sym (gains_at l weights rotations gains gains_are k))

    past_gain : (k : ℕ) → n ≤ k → net.drain k ≡ 0
    past_gain k le = ap (λ r. rise_of (gain_of l weights r)) (get_or_past rotations k [] le)

    not_forced_out : (c : ℕ × ℕ) (k : ℕ) → k < length forced → get_or forced k (0, 0) ≡ c → entry c ≢ suc n
    not_forced_out c k less is e =
        none_at (λ c. forces l levels first rotations c 0 (suc n)) forced k (0, 0) less (not_or_left _ _ allowed)
        (subst (λ c. forces l levels first rotations c 0 (suc n) ≡ true) (sym is) (or_left _ _ (eq-eqb _ _ (sym e))))
      where
        not_or_left : (a b : Bool) → (a || b) ≡ false → a ≡ false
        not_or_left true b e = e
        not_or_left false b e = refl

    not_always : (c : ℕ × ℕ) (k : ℕ) → k < length forbidden → get_or forbidden k (0, 0) ≡ c → (entry c ≡ 0) × (exit c ≡ suc n) → ⊥
    not_always c k less is e =
        none_at (λ c. forbids l levels first rotations c 0 (suc n)) forbidden k (0, 0) less (not_or_right _ _ allowed)
        (subst (λ c. forbids l levels first rotations c 0 (suc n) ≡ true) (sym is) (and_from _ _ (eq-eqb _ _ (sym e.0)) (eq-eqb _ _ (sym e.1))))
      where
        not_or_right : (a b : Bool) → (a || b) ≡ false → b ≡ false
        not_or_right true b e = absurd (false≢true (sym e))
        not_or_right false b e = e

    needs_sound : (k : ℕ) → k < length kept → All (IsRaw net) (need_edges kept k)
    needs_sound k less = all_flat (IsRaw net) (λ i. loose (k + 1) (i + 1)) (row kept k) 0 (λ a in_it. all_loose (IsRaw net) (k + 1) (slice_index (row kept k) a + 1) (λ ne.
        let inside : k < n = omega (arith, same.one_each) in
        let below = (same.each k inside).sound a in_it in
        let up : suc k ≡ k + 1 = omega arith in
        let down : suc (slice_index (row kept k) a) ≡ slice_index (row kept k) a + 1 = omega arith in
        let tested : edge (suc k) (suc (slice_index (row kept k) a)) ≡ true = of_need (suc k) (suc (slice_index (row kept k) a)) (same_needs (are.each k inside) (same.each k inside) a in_it) in
        let one : IsUnbounded net (suc k) (suc (slice_index (row kept k) a)) = unbounded_of (suc k) (suc (slice_index (row kept k) a)) (λ x. ne (omega (arith, x))) (omega arith) (λ x. omega (arith, x.0)) tested in
        record { from_in = omega arith; to_in = omega arith; room_is = subst (λ j. IsUnbounded net (k + 1) j) down (subst (λ i. IsUnbounded net i (suc (slice_index (row kept k) a))) up one) }))

    forced_sound : (k : ℕ) → k < length forced → All (IsRaw net) (forced_edges l levels first rotations (get_or forced k (0, 0)))
    forced_sound k less = All-append (IsRaw net) _ _
        (all_loose (IsRaw net) 0 (entry c) (λ ne. record {
          from_in = omega arith;
          to_in = let x = entry_le c in omega arith;
          room_is = unbounded_of 0 (entry c) ne (omega (arith, ne)) (λ x. not_forced_out c k less refl x.1)
              (of_forced 0 (entry c) (any_at (λ c. forces l levels first rotations c 0 (entry (get_or forced k (0, 0)))) forced k (0, 0) less (or_left _ _ (eq-eqb (entry c) (entry c) refl))));
        }))
        (all_loose (IsRaw net) (exit c) (suc n) (λ ne. record {
          from_in = let x = exit_le c in omega arith;
          to_in = omega arith;
          room_is = unbounded_of (exit c) (suc n) ne (omega arith) (λ x. omega (arith, x.0))
              (of_forced (exit c) (suc n) (any_at (λ c. forces l levels first rotations c (exit (get_or forced k (0, 0))) (suc n)) forced k (0, 0) less (or_right _ _ (and_from _ _ (eq-eqb (exit c) (exit c) refl) (eq-eqb (suc n) (suc n) refl)))));
        }))
      where
        c : ℕ × ℕ
        c = get_or forced k (0, 0)

    forbidden_sound : (k : ℕ) → k < length forbidden → All (IsRaw net) (forbidden_edges l levels first rotations (get_or forbidden k (0, 0)))
    forbidden_sound k less = all_loose (IsRaw net) (entry c) (exit c) (λ ne. record {
      from_in = let x = entry_le c in omega arith;
      to_in = let x = exit_le c in omega arith;
      room_is = unbounded_of (entry c) (exit c) ne (exit_some c) (λ x. not_always c k less refl x)
          (of_forbidden (entry c) (exit c) (any_at (λ c. forbids l levels first rotations c (entry (get_or forbidden k (0, 0))) (exit (get_or forbidden k (0, 0)))) forbidden k (0, 0) less (and_from _ _ (eq-eqb (entry c) (entry c) refl) (eq-eqb (exit c) (exit c) refl))));
    })
      where
        c : ℕ × ℕ
        c = get_or forbidden k (0, 0)

    sound : All (IsRaw net) raw
    sound = All-append (IsRaw net) _ _ (All-append (IsRaw net) _ _ (All-append (IsRaw net) _ _ (all_joined (IsRaw net) (need_edges kept) (length kept) needs_sound) (gains_sound net gains gains_many falls rises past_gain))
        (all_flat (IsRaw net) (forced_edges l levels first rotations) forced (0, 0) forced_sound)) (all_flat (IsRaw net) (forbidden_edges l levels first rotations) forbidden (0, 0) forbidden_sound)

    -- an unbounded edge is in the list
    in_needs : (e : Edge) → Contains (joined (need_edges kept) (length kept)) e → Contains raw e
    in_needs e c = Contains-append_left _ _ e (Contains-append_left _ _ e (Contains-append_left _ _ e c))

    in_gains : (e : Edge) → Contains (joined (gain_edges (suc n) gains) (length gains)) e → Contains raw e
    in_gains e c = Contains-append_left _ _ e (Contains-append_left _ _ e (Contains-append_right (joined (need_edges kept) (length kept)) _ e c))

    in_forced : (e : Edge) → Contains (flat_map (forced_edges l levels first rotations) forced) e → Contains raw e
    in_forced e c = Contains-append_left _ _ e (Contains-append_right (joined (need_edges kept) (length kept) ++ joined (gain_edges (suc n) gains) (length gains)) _ e c)

    in_forbidden : (e : Edge) → Contains (flat_map (forbidden_edges l levels first rotations) forbidden) e → Contains raw e
    in_forbidden e c = Contains-append_right ((joined (need_edges kept) (length kept) ++ joined (gain_edges (suc n) gains) (length gains)) ++ flat_map (forced_edges l levels first rotations) forced) _ e c

    need_there : (k i : ℕ) → i ≢ k → list_any (λ x. x == i) (row needs k) ≡ true → Contains raw (free (suc k) (suc i))
    need_there k i ne e = go (some_passes (λ x. x == i) (row needs k) 0 e)
      where
        go : Passes (λ x. x == i) (row needs k) 0 → Contains raw (free (suc k) (suc i))
        go w =
            let inside : k < n = elim (lt_or_le k n) [
              | inl x ↦ x
              | inr x ↦ absurd (let past : row needs k ≡ [] = get_or_past needs k [] (omega (arith, are.one_each)) in let short = ap length past in omega (arith, w.below))
            ] in
            let is : slice_index (row needs k) w.at ≡ i = eqb-true _ _ w.holds in
            let below = (are.each k inside).sound w.at w.below in
            let c = (same.each k inside).all (slice_index (row needs k) w.at) below ((are.each k inside).each w.at w.below) in
            let at : slice_index (row kept k) c.0 ≡ i = sym (get_or_default (row kept k) c.0 (slice_index (row needs k) w.at) 0 c.1) ∙ c.2 ∙ is in
            let up : k + 1 ≡ suc k = omega arith in
            let across : slice_index (row kept k) c.0 + 1 ≡ suc i = omega arith in
            let one : Contains (need_edges kept k) (free (k + 1) (slice_index (row kept k) c.0 + 1)) =
            in_flat (λ i. loose (k + 1) (i + 1)) (row kept k) c.0 0 (free (k + 1) (slice_index (row kept k) c.0 + 1)) c.1 (in_loose (k + 1) (slice_index (row kept k) c.0 + 1) (λ x. ne (omega (arith, x)))) in
            in_needs (free (suc k) (suc i)) (in_joined (need_edges kept) (length kept) k (free (suc k) (suc i)) (omega (arith, same.one_each))
            (subst (λ j. Contains (need_edges kept k) (free (suc k) j)) across (subst (λ j. Contains (need_edges kept k) (free j (slice_index (row kept k) c.0 + 1))) up one)))

    forced_there : (i j : ℕ) → i ≢ j → list_any (λ c. forces l levels first rotations c i j) forced ≡ true → Contains raw (free i j)
    forced_there i j ne e = go (some_passes (λ c. forces l levels first rotations c i j) forced (0, 0) e)
      where
        go : Passes (λ c. forces l levels first rotations c i j) forced (0, 0) → Contains raw (free i j)
        go w = elim (or_parts _ _ w.holds) [
          | inl x ↦
              let parts = and_parts _ _ x in
              let from : 0 ≡ i = sym (eqb-true _ _ parts.0) in
              let to : entry (get_or forced w.at (0, 0)) ≡ j = sym (eqb-true _ _ parts.1) in
              let here : Contains (loose 0 (entry (get_or forced w.at (0, 0)))) (free i j) =
              subst (λ b. Contains (loose 0 (entry (get_or forced w.at (0, 0)))) (free i b)) to (subst (λ a. Contains (loose 0 (entry (get_or forced w.at (0, 0)))) (free a (entry (get_or forced w.at (0, 0))))) from (in_loose 0 (entry (get_or forced w.at (0, 0))) (λ y. ne (sym from ∙ y ∙ to)))) in
              in_forced (free i j) (in_flat (forced_edges l levels first rotations) forced w.at (0, 0) (free i j) w.below (Contains-append_left _ (loose (exit (get_or forced w.at (0, 0))) (suc n)) (free i j) here))
          | inr x ↦
              let parts = and_parts _ _ x in
              let from : exit (get_or forced w.at (0, 0)) ≡ i = sym (eqb-true _ _ parts.0) in
              let to : suc n ≡ j = sym (eqb-true j (suc n) parts.1) in
              let here : Contains (loose (exit (get_or forced w.at (0, 0))) (suc n)) (free i j) =
              subst (λ b. Contains (loose (exit (get_or forced w.at (0, 0))) (suc n)) (free i b)) to (subst (λ a. Contains (loose (exit (get_or forced w.at (0, 0))) (suc n)) (free a (suc n))) from (in_loose (exit (get_or forced w.at (0, 0))) (suc n) (λ y. ne (sym from ∙ y ∙ to)))) in
              in_forced (free i j) (in_flat (forced_edges l levels first rotations) forced w.at (0, 0) (free i j) w.below (Contains-append_right (loose 0 (entry (get_or forced w.at (0, 0)))) _ (free i j) here))
        ]

    forbidden_there : (i j : ℕ) → i ≢ j → list_any (λ c. forbids l levels first rotations c i j) forbidden ≡ true → Contains raw (free i j)
    forbidden_there i j ne e = go (some_passes (λ c. forbids l levels first rotations c i j) forbidden (0, 0) e)
      where
        go : Passes (λ c. forbids l levels first rotations c i j) forbidden (0, 0) → Contains raw (free i j)
        go w =
            let parts = and_parts _ _ w.holds in
            let from : entry (get_or forbidden w.at (0, 0)) ≡ i = sym (eqb-true _ _ parts.0) in
            let to : exit (get_or forbidden w.at (0, 0)) ≡ j = sym (eqb-true _ _ parts.1) in
            let here : Contains (forbidden_edges l levels first rotations (get_or forbidden w.at (0, 0))) (free i j) =
            subst (λ b. Contains (forbidden_edges l levels first rotations (get_or forbidden w.at (0, 0))) (free i b)) to
            (subst (λ a. Contains (forbidden_edges l levels first rotations (get_or forbidden w.at (0, 0))) (free a (exit (get_or forbidden w.at (0, 0))))) from (in_loose (entry (get_or forbidden w.at (0, 0))) (exit (get_or forbidden w.at (0, 0))) (λ y. ne (sym from ∙ y ∙ to)))) in
            in_forbidden (free i j) (in_flat (forbidden_edges l levels first rotations) forbidden w.at (0, 0) (free i j) w.below here)

    led_there : (i j : ℕ) → i ≢ j → leads_to_need needs i j ≡ true → Contains raw (free i j)
    led_there zero j ne e = absurd (false≢true e)
    led_there (suc k) zero ne e = absurd (false≢true e)
    led_there (suc k) (suc i) ne e = need_there k i (λ x. ne (omega (arith, x))) e

    unbounded_there : (i j : ℕ) → IsUnbounded net i j → Contains raw (free i j)
    unbounded_there i j u =
        let w = parts_of i j u in
        elim (or_parts _ _ w.tested) [
          | inl x ↦ led_there i j w.apart_is x
          | inr x ↦ elim (or_parts _ _ x) [
            | inl y ↦ forced_there i j w.apart_is y
            | inr y ↦ forbidden_there i j w.apart_is y
          ]
        ]

    bounded_there : (i j : ℕ) → 0 < room_of net i j → IsThere net raw i j
    bounded_there i j some =
        let w = gain_there net gains gains_many falls rises past_gain i j some in
        record { edge_is = w.edge_is; there = in_gains w.edge_is w.there; begins = w.begins; ends = w.ends }

    -- so the merged edges are those of the net
    pub edges_are : (once : List Edge) → AreMerged raw once → AreEdges net once
    edges_are once w = edges_of_raw net raw sound unbounded_there bounded_there once w

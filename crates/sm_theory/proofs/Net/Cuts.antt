-- The sets that no unbounded edge leaves are the closed sets whose matching is allowed.
use Rattle.std.proofs.Common.{◌≡◌, ◌≢◌, ℕ, zero, suc, ◌<◌, ◌⊎◌, inl, inr, arith, refl, sym, ap, ◌∙◌, Bool, true, false, not, ◌&&◌, ◌||◌, List, length, eqb, eqb-true, eq-eqb, ℤ, slice_index, slice_index_or}
use Rattle.std.specs.List.{list_any, position_or_len}
use Rattle.std.proofs.lemmas.Bool.{false≢true, false_from_ne_true, and_from, or_left, or_right, cases_Bool}
use Rattle.std.proofs.lemmas.List.{get_or_past}
use Rattle.std.proofs.lemmas.List.Folds.{list_any_at}
use Rattle.std.proofs.lemmas.List.Sums.{prefix_len-le-length}
use Rattle.sm_market.specs.Lists.{Lists, row}
use Rattle.sm_market.specs.Matching.{Places, held}
use Rattle.sm_lists.proofs.Counting.{lt_or_le}
use Rattle.sm_theory.specs.Chains.{rotation_at, IsNeededBy}
use Rattle.sm_theory.specs.ClosedSets.{IsMember, IsClosed, matching_of}
use Rattle.sm_theory.specs.Vectors.{HasLevel, IsAllowed}
use Rattle.sm_theory.specs.Net.{Net, sink_of, IsUnbounded, is_in, IsCut}
use Rattle.sm_theory.specs.Conditions.{has_level, moves_to, moves_off, entry_node, exit_node, forces, forbids, leads_to_need, allows_nothing, IsNetGround}
use Rattle.sm_theory.specs.LawsFlows.{CutsAreAllowed}
use Rattle.sm_theory.proofs.Bridge.Places.{row_past}
use Rattle.sm_theory.proofs.Chains.Rotations.{predecessor_is_earlier}
use Rattle.sm_theory.proofs.Net.Tests.{and_parts, or_parts, not_same, Passes, some_passes}
use Rattle.sm_theory.proofs.Net.Whole.{whole_net_of, net_is_whole, whole_across}
use Rattle.sm_theory.proofs.Net.Entries.{entry_inside, exit_outside, level_between}

module _ (l : Lists) (levels : List (List ℕ)) (weights : List (List ℤ)) (forced forbidden : List (ℕ × ℕ)) (first : Places) (rotations : List (List (ℕ × ℕ))) (needs : List (List ℕ)) (ground : IsNetGround l levels first rotations needs) where
  abbrev net : Net
  net = whole_net_of l levels weights forced forbidden first rotations needs

  abbrev entry : ℕ × ℕ → ℕ
  entry c = entry_node l levels first rotations c.0 c.1

  abbrev exit : ℕ × ℕ → ℕ
  exit c = exit_node l levels rotations c.0 c.1

  abbrev rest_edge : ℕ → ℕ → Bool
  rest_edge i j = list_any (λ c. forces l levels first rotations c i j) forced || list_any (λ c. forbids l levels first rotations c i j) forbidden

  forces_entry : (d : ℕ × ℕ) (j : ℕ) → j ≡ entry d → forces l levels first rotations d 0 j ≡ true
  forces_entry d j e = or_left (eqb j (entry d)) (eqb 0 (exit d) && eqb j (suc (length rotations))) (eq-eqb j (entry d) e)

  forces_exit : (d : ℕ × ℕ) → forces l levels first rotations d (exit d) (suc (length rotations)) ≡ true
  forces_exit d = or_right (eqb (exit d) 0 && eqb (suc (length rotations)) (entry d)) (eqb (exit d) (exit d) && eqb (suc (length rotations)) (suc (length rotations)))
      (and_from (eqb (exit d) (exit d)) (eqb (suc (length rotations)) (suc (length rotations))) (eq-eqb (exit d) (exit d) refl) (eq-eqb (suc (length rotations)) (suc (length rotations)) refl))

  forces_parts : (d : ℕ × ℕ) (i j : ℕ) → forces l levels first rotations d i j ≡ true → (j ≡ entry d) ⊎ ((i ≡ exit d) × (j ≡ sink_of net))
  forces_parts d i j e = elim (or_parts (eqb i 0 && eqb j (entry d)) (eqb i (exit d) && eqb j (suc (length rotations))) e) [
    | inl x ↦ inl (eqb-true j (entry d) (and_parts (eqb i 0) (eqb j (entry d)) x).1)
    | inr x ↦ let parts = and_parts (eqb i (exit d)) (eqb j (suc (length rotations))) x in inr (eqb-true i (exit d) parts.0, eqb-true j (suc (length rotations)) parts.1)
  ]

  forbids_exit : (d : ℕ × ℕ) → forbids l levels first rotations d (entry d) (exit d) ≡ true
  forbids_exit d = and_from (eqb (entry d) (entry d)) (eqb (exit d) (exit d)) (eq-eqb (entry d) (entry d) refl) (eq-eqb (exit d) (exit d) refl)

  forbids_parts : (d : ℕ × ℕ) (i j : ℕ) → forbids l levels first rotations d i j ≡ true → (i ≡ entry d) × (j ≡ exit d)
  forbids_parts d i j e = let parts = and_parts (eqb i (entry d)) (eqb j (exit d)) e in (eqb-true i (entry d) parts.0, eqb-true j (exit d) parts.1)

  -- an edge of each kind is unbounded
  edge_of : (i k : ℕ) → i ≢ suc k
      → (leads_to_need needs i (suc k) || rest_edge i (suc k)) ≡ true
      → IsUnbounded net i (suc k)
  edge_of i k apart e = and_from (not (eqb i (suc k))) (leads_to_need needs i (suc k) || rest_edge i (suc k)) (not_same i (suc k) apart) e

  entry_in_range : (c : ℕ × ℕ) → entry c < suc (sink_of net)
  entry_in_range c = go (cases_Bool (has_level levels c.0 c.1 (held first.proposers c.0)))
    where
      go : (has_level levels c.0 c.1 (held first.proposers c.0) ≡ true) ⊎ (has_level levels c.0 c.1 (held first.proposers c.0) ≡ false) → entry c < suc (sink_of net)
      go (inl e) = rw e (omega arith)
      go (inr e) = let le = prefix_len-le-length (λ x. not (moves_to l levels c.0 c.1 x)) rotations in rw e (omega arith)

  exit_in_range : (c : ℕ × ℕ) → exit c < suc (sink_of net)
  exit_in_range c = let le = prefix_len-le-length (λ x. not (moves_off l levels c.0 c.1 x)) rotations in omega arith

  -- what an unbounded edge is
  edge_parts : (i k : ℕ) → IsUnbounded net i (suc k)
      → (leads_to_need needs i (suc k) ≡ true) ⊎ (Passes (λ c. forces l levels first rotations c i (suc k)) forced (0, 0) ⊎ Passes (λ c. forbids l levels first rotations c i (suc k)) forbidden (0, 0))
  edge_parts i k u = elim (or_parts (leads_to_need needs i (suc k)) (rest_edge i (suc k)) (and_parts (not (eqb i (suc k))) (leads_to_need needs i (suc k) || rest_edge i (suc k)) u).1) [
    | inl x ↦ inl x
    | inr y ↦ elim (or_parts (list_any (λ c. forces l levels first rotations c i (suc k)) forced) (list_any (λ c. forbids l levels first rotations c i (suc k)) forbidden) y) [
      | inl x ↦ inr (inl (some_passes (λ c. forces l levels first rotations c i (suc k)) forced (0, 0) x))
      | inr x ↦ inr (inr (some_passes (λ c. forbids l levels first rotations c i (suc k)) forbidden (0, 0) x))
    ]
  ]

  need_in_range : (i k : ℕ) → leads_to_need needs i (suc k) ≡ true → k < length rotations
  need_in_range zero k e = absurd (false≢true e)
  need_in_range (suc i) k e =
      let w = some_passes (λ x. eqb x k) (row needs i) 0 e in
      let same : slice_index (row needs i) w.at ≡ k = eqb-true (slice_index (row needs i) w.at) k w.holds in
      elim (lt_or_le i (length rotations)) [
        | inl a ↦ rw same at ((ground.each i a).sound w.at w.below)
        | inr a ↦ absurd (omega (arith, w.below, row_past needs i (omega (arith, ground.one_each))))
      ]

  -- unbounded edges lead to nodes of the net
  pub edge_in_range : (i j : ℕ) → IsUnbounded net i j → j < suc (sink_of net)
  edge_in_range i zero u = absurd (false≢true u)
  edge_in_range i (suc k) u = elim (edge_parts i k u) [
    | inl x ↦ omega (arith, need_in_range i k x)
    | inr y ↦ elim y [
      | inl w ↦ elim (forces_parts (slice_index_or forced w.at (0, 0)) i (suc k) w.holds) [
        | inl x ↦ omega (arith, x, entry_in_range (slice_index_or forced w.at (0, 0)))
        | inr x ↦ omega (arith, x.1)
      ]
      | inr w ↦ let x = forbids_parts (slice_index_or forbidden w.at (0, 0)) i (suc k) w.holds in omega (arith, x.1, exit_in_range (slice_index_or forbidden w.at (0, 0)))
    ]
  ]

  module _ (set : List Bool) where
    -- the sink is in no set
    pub sink_out : length set ≡ length rotations → is_in set (sink_of net) ≡ false
    sink_out one = get_or_past set (length rotations) false (omega (arith, one))

    in_or_out : (n : ℕ) → (is_in set n ≡ false → ⊥) → is_in set n ≡ true
    in_or_out n h = elim (cases_Bool (is_in set n)) [ inl e ↦ e | inr e ↦ absurd (h e) ]

    apart_of : (i j : ℕ) → is_in set i ≡ true → is_in set j ≡ false → i ≢ j
    apart_of i j p q e = false≢true (sym q ∙ ap (is_in set) (sym e) ∙ p)

    module _ (c : IsCut net set) where
      closed : IsClosed l rotations set
      closed = record { one_each = c.one_each; closed = keeps }
        where
          keeps : (i j : ℕ) → i < length rotations → j < length rotations → IsMember set j → IsNeededBy l (rotation_at rotations i) (rotation_at rotations j) → IsMember set i
          keeps i j a b member need =
              let w = (ground.each j b).all i a need in
              let test : list_any (λ x. eqb x i) (row needs j) ≡ true = list_any_at (λ x. eqb x i) (row needs j) w.0 i w.1 (eq-eqb _ _ w.2) in
              let lower = predecessor_is_earlier l first rotations i j ground.market ground.chain a b need in
              in_or_out (suc i) (λ out. c.bounded (suc j) (suc i) (omega arith) (omega arith) member out
              (edge_of (suc j) i (λ e. omega arith) (or_left (leads_to_need needs (suc j) (suc i)) (rest_edge (suc j) (suc i)) test)))

      has_forced : (d : ℕ × ℕ) (k : ℕ) → k < length forced → slice_index_or forced k (0, 0) ≡ d → HasLevel levels (matching_of l first rotations set) d.0 d.1
      has_forced d k a e = level_between ground.market ground.chain levels d.0 d.1 ground.rising set closed into (false_from_ne_true (is_in set (exit d)) off)
        where
          by_forced : (i j : ℕ) → forces l levels first rotations d i j ≡ true → rest_edge i j ≡ true
          by_forced i j x = or_left (list_any (λ c. forces l levels first rotations c i j) forced) (list_any (λ c. forbids l levels first rotations c i j) forbidden)
              (list_any_at (λ c. forces l levels first rotations c i j) forced k (0, 0) a (ap (λ d. forces l levels first rotations d i j) e ∙ x))

          into : is_in set (entry d) ≡ true
          into = go (entry d) refl (entry_in_range d)
            where
              go : (n : ℕ) → entry d ≡ n → n < suc (sink_of net) → is_in set n ≡ true
              go zero x b = refl
              go (suc j) x b = in_or_out (suc j) (λ out. c.bounded 0 (suc j) (omega arith) b refl out
                  (edge_of 0 j (λ y. omega arith) (or_right false (rest_edge 0 (suc j)) (by_forced 0 (suc j) (forces_entry d (suc j) (sym x))))))

          off : is_in set (exit d) ≡ true → ⊥
          off p = c.bounded (exit d) (sink_of net) (exit_in_range d) (omega arith) p (sink_out c.one_each)
              (edge_of (exit d) (length rotations) (apart_of (exit d) (sink_of net) p (sink_out c.one_each))
              (or_right (leads_to_need needs (exit d) (sink_of net)) (rest_edge (exit d) (sink_of net)) (by_forced (exit d) (sink_of net) (forces_exit d))))

      no_forbidden : (d : ℕ × ℕ) (k : ℕ) → k < length forbidden → slice_index_or forbidden k (0, 0) ≡ d → HasLevel levels (matching_of l first rotations set) d.0 d.1 → ⊥
      no_forbidden d k a e w =
          let p = entry_inside ground.market ground.chain levels d.0 d.1 ground.rising set closed w in
          let q = exit_outside ground.market ground.chain levels d.0 d.1 ground.rising set closed w in
          c.bounded (entry d) (exit d) (entry_in_range d) (exit_in_range d) p q
          (edge_of (entry d) (position_or_len (moves_off l levels d.0 d.1) rotations) (apart_of (entry d) (exit d) p q)
          (or_right (leads_to_need needs (entry d) (exit d)) (rest_edge (entry d) (exit d))
          (or_right (list_any (λ c. forces l levels first rotations c (entry d) (exit d)) forced) (list_any (λ c. forbids l levels first rotations c (entry d) (exit d)) forbidden)
          (list_any_at (λ c. forbids l levels first rotations c (entry d) (exit d)) forbidden k (0, 0) a (ap (λ x. forbids l levels first rotations x (entry d) (exit d)) e ∙ forbids_exit d)))))

      -- a set that no unbounded edge leaves is closed, and its matching is allowed
      pub allowed_of_cut : IsClosed l rotations set × IsAllowed levels forced forbidden (matching_of l first rotations set)
      allowed_of_cut = (
        closed,
        record {
          holds = λ k a. has_forced (slice_index_or forced k (0, 0)) k a refl;
          avoids = λ k a w. no_forbidden (slice_index_or forbidden k (0, 0)) k a refl w;
        },
      )

    module _ (closed : IsClosed l rotations set) (allowed : IsAllowed levels forced forbidden (matching_of l first rotations set)) where
      differ : (n : ℕ) → is_in set n ≡ true → is_in set n ≡ false → ⊥
      differ n p q = false≢true (sym q ∙ p)

      member_below : (k : ℕ) → IsMember set k → k < length rotations
      member_below k m = elim (lt_or_le k (length rotations)) [
        | inl a ↦ a
        | inr a ↦ absurd (false≢true (sym (get_or_past set k false (omega (arith, closed.one_each))) ∙ m))
      ]

      to_need : (i k : ℕ) → is_in set i ≡ true → is_in set (suc k) ≡ false → leads_to_need needs i (suc k) ≡ true → ⊥
      to_need zero k p q e = false≢true e
      to_need (suc i) k p q e =
          let a = member_below i p in
          let w = some_passes (λ x. eqb x k) (row needs i) 0 e in
          let same : slice_index (row needs i) w.at ≡ k = eqb-true (slice_index (row needs i) w.at) k w.holds in
          let need : IsNeededBy l (rotation_at rotations k) (rotation_at rotations i) = rw same at ((ground.each i a).each w.at w.below) in
          differ (suc k) (closed.closed k i (need_in_range (suc i) k e) a p need) q

      to_forced : (d : ℕ × ℕ) (i j : ℕ) → HasLevel levels (matching_of l first rotations set) d.0 d.1 → is_in set i ≡ true → is_in set j ≡ false → forces l levels first rotations d i j ≡ true → ⊥
      to_forced d i j w p q e = elim (forces_parts d i j e) [
        | inl y ↦
            differ j (rw y (entry_inside ground.market ground.chain levels d.0 d.1 ground.rising set closed w)) q
        | inr y ↦
            differ i p (rw y.0 (exit_outside ground.market ground.chain levels d.0 d.1 ground.rising set closed w))
      ]

      to_forbidden : (d : ℕ × ℕ) (i j : ℕ) → (HasLevel levels (matching_of l first rotations set) d.0 d.1 → ⊥) → is_in set i ≡ true → is_in set j ≡ false → forbids l levels first rotations d i j ≡ true → ⊥
      to_forbidden d i j none p q e =
          let parts = forbids_parts d i j e in
          none (level_between ground.market ground.chain levels d.0 d.1 ground.rising set closed (rw parts.0 at p) (rw parts.1 at q))

      -- no unbounded edge leaves a closed set whose matching is allowed
      pub cut_of_allowed : IsCut net set
      cut_of_allowed = record { one_each = closed.one_each; bounded = bounded }
        where
          bounded : (i j : ℕ) → i < suc (sink_of net) → j < suc (sink_of net) → is_in set i ≡ true → is_in set j ≡ false → IsUnbounded net i j → ⊥
          bounded i zero a b p q u = false≢true u
          bounded i (suc k) a b p q u = elim (edge_parts i k u) [
            | inl x ↦ to_need i k p q x
            | inr y ↦ elim y [
              | inl w ↦ to_forced (slice_index_or forced w.at (0, 0)) i (suc k) (allowed.holds w.at w.below) p q w.holds
              | inr w ↦ to_forbidden (slice_index_or forbidden w.at (0, 0)) i (suc k) (allowed.avoids w.at w.below) p q w.holds
            ]
          ]

-- where a matching is allowed, each pair allows something
module _ (l : Lists) (levels : List (List ℕ)) (weights : List (List ℤ)) (forced forbidden : List (ℕ × ℕ)) (first : Places) (rotations : List (List (ℕ × ℕ))) (needs : List (List ℕ)) (ground : IsNetGround l levels first rotations needs) where
  -- where the matching of a closed set is allowed, no pair allows nothing by itself
  pub allowed_something : (set : List Bool) → IsClosed l rotations set → IsAllowed levels forced forbidden (matching_of l first rotations set) → allows_nothing l levels forced forbidden first rotations ≡ false
  allowed_something set closed allowed =
      let cut = cut_of_allowed l levels weights forced forbidden first rotations needs ground set closed allowed in
      false_from_ne_true _ (λ e. cut.bounded 0 (suc (length rotations)) (omega arith) (omega arith) refl (sink_out l levels weights forced forbidden first rotations needs ground set closed.one_each)
      (whole_across l levels weights forced forbidden first rotations needs e))

-- where no pair allows nothing by itself, the cuts are the closed sets whose matching is allowed
pub cuts_are_allowed : CutsAreAllowed
cuts_are_allowed l levels weights forced forbidden first rotations needs set ground = (
  (λ c. allowed_of_cut l levels weights forced forbidden first rotations needs ground set (rw (net_is_whole l levels weights forced forbidden first rotations needs c.0) at c.1)),
  (λ w.
      let some = allowed_something l levels weights forced forbidden first rotations needs ground set w.0 w.1 in
      (some, rw (net_is_whole l levels weights forced forbidden first rotations needs some) (cut_of_allowed l levels weights forced forbidden first rotations needs ground set w.0 w.1))),
)

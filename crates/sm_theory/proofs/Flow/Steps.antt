-- What the test of a residual step says.
use Rattle.std.proofs.Common.{◌≡◌, ℕ, suc, ◌<◌, ◌⊎◌, inl, inr, true, ◌||◌, lt-ltb, ltb-true, nat_lt}
use Rattle.std.proofs.lemmas.Bool.{and_from, or_left, or_right}
use Rattle.sm_theory.specs.Net.{Net, sink_of, room_of, is_unbounded, IsUnbounded}
use Rattle.sm_theory.specs.Flows.{IsResidualStep}
use Rattle.sm_theory.proofs.Net.Tests.{and_parts, or_parts}

module _ (net : Net) (flow : ℕ → ℕ → ℕ) (i j : ℕ) where
  -- along an unbounded edge, along one with room left, or against one with a positive amount
  abbrev pub Kind : Type 0
  Kind = IsUnbounded net i j ⊎ ((flow i j < room_of net i j) ⊎ (0 < flow j i))

  pub step_kind : IsResidualStep net flow i j → Kind
  step_kind e = elim (or_parts (is_unbounded net i j) (nat_lt (flow i j) (room_of net i j) || nat_lt 0 (flow j i)) (and_parts (nat_lt j (suc (sink_of net))) _ e).1) [
    | inl u ↦ inl u
    | inr rest ↦ elim (or_parts (nat_lt (flow i j) (room_of net i j)) (nat_lt 0 (flow j i)) rest) [
      | inl less ↦ inr (inl (ltb-true (flow i j) (room_of net i j) less))
      | inr some ↦ inr (inr (ltb-true 0 (flow j i) some))
    ]
  ]

  -- it ends at a node of the net
  pub step_end : IsResidualStep net flow i j → j < suc (sink_of net)
  step_end e = ltb-true j (suc (sink_of net)) (and_parts (nat_lt j (suc (sink_of net))) _ e).0

  -- a step of such a kind to a node of the net is one
  pub step_of_kind : j < suc (sink_of net) → Kind → IsResidualStep net flow i j
  step_of_kind within kind = and_from (nat_lt j (suc (sink_of net))) (is_unbounded net i j || (nat_lt (flow i j) (room_of net i j) || nat_lt 0 (flow j i))) (lt-ltb j (suc (sink_of net)) within) (passes kind)
    where
      passes : Kind → (is_unbounded net i j || (nat_lt (flow i j) (room_of net i j) || nat_lt 0 (flow j i))) ≡ true
      passes (inl u) = or_left (is_unbounded net i j) (nat_lt (flow i j) (room_of net i j) || nat_lt 0 (flow j i)) u
      passes (inr (inl less)) = or_right (is_unbounded net i j) (nat_lt (flow i j) (room_of net i j) || nat_lt 0 (flow j i)) (or_left (nat_lt (flow i j) (room_of net i j)) (nat_lt 0 (flow j i)) (lt-ltb (flow i j) (room_of net i j) less))
      passes (inr (inr some)) = or_right (is_unbounded net i j) (nat_lt (flow i j) (room_of net i j) || nat_lt 0 (flow j i)) (or_right (nat_lt (flow i j) (room_of net i j)) (nat_lt 0 (flow j i)) (lt-ltb 0 (flow j i) some))

-- The net of no needs and of the inner residual steps as bonds is the second net of a flow.
use Rattle.std.proofs.Common.{◌≡◌, ◌≢◌, ℕ, zero, suc, ◌+◌, ◌<◌, ◌≤◌, inl, inr, arith, refl, sym, ap, ◌∙◌, subst, Bool, true, false, not, List, [], length, replicate, eqb-true, eq-eqb, ne_eqb, le-ltb, ℤ, pos}
use Rattle.std.specs.Prelude.{◌==◌, ◌&&◌, ◌||◌, if◌then◌else◌}
use Rattle.std.specs.List.{list_any}
use Rattle.std.proofs.lemmas.Bool.{false≢true, and_from, false_from_ne_true, not_from_false, or_right}
use Rattle.std.proofs.lemmas.List.{get_or_past}
use Rattle.sm_lists.specs.Rows.{row}
use Rattle.sm_lists.proofs.Counting.{eq_or_ne}
use Rattle.sm_theory.specs.Conditions.{leads_to_need, rise_of, fall_of}
use Rattle.sm_theory.specs.Net.{Net, room_of, IsUnbounded, HasEdge}
use Rattle.sm_theory.specs.Flows.{is_residual_step, IsResidualStep}
use Rattle.sm_theory.specs.FlowLines.{line_at, amount_on, AreOnNodes}
use Rattle.sm_theory.specs.SecondNets.{second_net}
use Rattle.sm_theory.specs.declared.flow_lines.FlowLine.{FlowLine}
use Rattle.sm_theory.proofs.Flow.Steps.{step_kind}
use Rattle.sm_theory.proofs.Net.Tests.{and_parts, or_parts, not_parts, not_same, some_passes}
use Rattle.sm_check_net.specs.Pairs.{has_pair}
use Rattle.sm_lists.specs.Pairs.{pair_at}
use Rattle.sm_check_net.specs.CheckedNets.{NetParts, net_of_parts, gain_at, IsOnEdge}
use Rattle.sm_check_net.specs.Residual.{residual_steps}
use Rattle.sm_check_net.specs.Second.{AreOnEdges, inner_step, inner_steps}
use Rattle.sm_check_net.proofs.PairListLemmas.{has_pair-pair_if, in_pair_if, in_flat, has_pair-flat_map}
use Rattle.sm_check_net.proofs.ReachLemmas.{step_at}
use Rattle.sm_check_net.proofs.ResidualLemmas.{has_part, step_of, step_listed}
use Rattle.sm_lists.proofs.ResultLemmas.{same_bool}

-- rotations without needs need none
no_row : (n k : ℕ) → row (replicate n []) k ≡ []
no_row zero k = refl
no_row (suc n) zero = refl
no_row (suc n) (suc k) = no_row n k

no_need : (n i j : ℕ) → leads_to_need (replicate n []) i j ≡ false
no_need n zero j = refl
no_need n (suc k) zero = refl
no_need n (suc k) (suc j) = ap (list_any (λ i. i == j)) (no_row n k)

module _ (parts : NetParts) (lines : List FlowLine) (on : AreOnNodes (length parts.gains + 2) lines) (edges : AreOnEdges (net_of_parts parts) lines) where
  abbrev net : Net
  net = net_of_parts parts

  abbrev sink : ℕ
  sink = suc (length parts.gains)

  abbrev Step : ℕ → ℕ → Type 0
  Step = IsResidualStep net (amount_on lines)

  -- a line with an amount on these ends is on an edge
  edge_of : (i j : ℕ) → 0 < amount_on lines i j → IsOnEdge net (record { from = i; to = j; amount = 0 })
  edge_of i j some =
      let w = has_part (λ (x : FlowLine). if x.from == i && x.to == j then x.amount else 0) lines (record { from = 0; to = 0; amount = 0 }) some in
      let ends = ends_of (line_at lines w.at) w.some in
      let e = edges w.at w.below in
      record {
        not_through = λ x. e.not_through (ends.0 ∙ x.0, ends.1 ∙ x.1);
        edge = subst (λ y. HasEdge net i y) ends.1 (subst (λ x. HasEdge net x (line_at lines w.at).to) ends.0 e.edge);
      }
    where
      ends_of : (l : FlowLine) → 0 < (if l.from == i && l.to == j then l.amount else 0) → (l.from ≡ i) × (l.to ≡ j)
      ends_of l some = elim (eq_or_ne l.from i) [
        | inl a ↦ elim (eq_or_ne l.to j) [
          | inl b ↦ (a, b)
          | inr b ↦ absurd (let bad : 0 < 0 = rw (eq-eqb l.from i a, ne_eqb l.to j b) at some in omega arith)
        ]
        | inr a ↦ absurd (let bad : 0 < 0 = rw (ne_eqb l.from i a) at some in omega arith)
      ]

  -- no edge is a loop, leads to the source, or from the source to the sink
  dry : (k : ℕ) → length parts.gains ≤ k → rise_of (gain_at parts.gains k) ≡ 0
  dry k le = ap rise_of (get_or_past parts.gains k (pos 0) le)

  no_loop_room : (i : ℕ) → room_of net i i ≡ 0
  no_loop_room zero = refl
  no_loop_room (suc i) = elim (eq_or_ne i (length parts.gains)) [
    | inl e ↦ rw (eq-eqb i (length parts.gains) e) (dry i (omega (arith, e)))
    | inr ne ↦ rw (ne_eqb i (length parts.gains) ne) refl
  ]

  no_loop_edge : (i : ℕ) → IsUnbounded net i i → ⊥
  no_loop_edge zero u = false≢true u
  no_loop_edge (suc i) u = false≢true (sym (not_parts (suc i == suc i) (and_parts (not (suc i == suc i)) _ u).0) ∙ eq-eqb (suc i) (suc i) refl)

  has_no_loop : (i : ℕ) → HasEdge net i i → ⊥
  has_no_loop i (inl u) = no_loop_edge i u
  has_no_loop i (inr some) = omega (arith, no_loop_room i, some)

  no_loop : (i : ℕ) → Step i i → ⊥
  no_loop i s = elim (step_kind net (amount_on lines) i i s) [
    | inl u ↦ no_loop_edge i u
    | inr more ↦ elim more [
      | inl less ↦ omega (arith, no_loop_room i, less)
      | inr some ↦ has_no_loop i (edge_of i i some).edge
    ]
  ]

  through_room : room_of net 0 sink ≡ 0
  through_room = rw (le-ltb (length parts.gains) (length parts.gains) (omega arith)) refl

  through_edge : IsUnbounded net 0 sink → ⊥
  through_edge u =
      let inner = and_parts (not (0 == 0 && sink == sink)) _ (and_parts (not (0 == sink)) _ u).1 in
      false≢true (sym (not_parts (0 == 0 && sink == sink) inner.0) ∙ and_from (0 == 0) (sink == sink) refl (eq-eqb sink sink refl))

  to_source : (i : ℕ) → HasEdge net i 0 → ⊥
  to_source zero (inl u) = false≢true u
  to_source (suc i) (inl u) = false≢true u
  to_source zero (inr some) = omega arith
  to_source (suc i) (inr some) = omega arith

  no_through : Step 0 sink → ⊥
  no_through s = elim (step_kind net (amount_on lines) 0 sink s) [
    | inl u ↦ through_edge u
    | inr more ↦ elim more [
      | inl less ↦ omega (arith, through_room, less)
      | inr some ↦ to_source sink (edge_of sink 0 some).edge
    ]
  ]

  -- the inner steps are the residual steps that neither begin at the sink nor end at the source
  inner_is : (i j : ℕ) → has_pair (inner_steps parts lines) i j ≡ true → (i ≢ sink) × (j ≢ 0) × Step i j
  inner_is i j h =
      let w = in_flat (inner_step net) (residual_steps parts lines) (0, 0) i j h in
      let s : ℕ × ℕ = pair_at (residual_steps parts lines) w.at in
      let p = in_pair_if (not (s.0 == sink) && not (s.1 == 0)) s.0 s.1 i j w.has in
      let tests = and_parts (not (s.0 == sink)) (not (s.1 == 0)) p.0 in
      let listed : has_pair (residual_steps parts lines) s.0 s.1 ≡ true = at_place (residual_steps parts lines) w.at w.below in (
        (λ e. false≢true (sym (not_parts (s.0 == sink) tests.0) ∙ eq-eqb s.0 sink (p.1 ∙ e))),
        (λ e. false≢true (sym (not_parts (s.1 == 0) tests.1) ∙ eq-eqb s.1 0 (p.2 ∙ e))),
        subst (λ a. Step a j) p.1 (subst (Step s.0) p.2 (step_of parts lines on s.0 s.1 listed)),
      )
    where
      at_place : (steps : List (ℕ × ℕ)) (k : ℕ) → k < length steps → has_pair steps (pair_at steps k).0 (pair_at steps k).1 ≡ true
      at_place steps k less = step_at steps k (pair_at steps k).0 less refl

  is_inner : (i j : ℕ) → i ≢ sink → j ≢ 0 → Step i j → has_pair (inner_steps parts lines) i j ≡ true
  is_inner i j a b s =
      let w = some_passes (λ (x : ℕ × ℕ). x.0 == i && x.1 == j) (residual_steps parts lines) (0, 0) (step_listed parts lines i j s) in
      let x : ℕ × ℕ = pair_at (residual_steps parts lines) w.at in
      let both = and_parts (x.0 == i) (x.1 == j) w.holds in
      let from : x.0 ≡ i = eqb-true x.0 i both.0 in
      let to : x.1 ≡ j = eqb-true x.1 j both.1 in
      let holds : (not (x.0 == sink) && not (x.1 == 0)) ≡ true = and_from (not (x.0 == sink)) (not (x.1 == 0)) (not_same x.0 sink (λ e. a (sym from ∙ e))) (not_same x.1 0 (λ e. b (sym to ∙ e))) in
      has_pair-flat_map (inner_step net) (residual_steps parts lines) (0, 0) w.at i j w.below (has_pair-pair_if (not (x.0 == sink) && not (x.1 == 0)) x.0 x.1 i j holds from to)

  module _ (gains : List ℤ) (many : length gains ≡ length parts.gains) (needs : List (List ℕ)) (none : needs ≡ replicate (length parts.gains) []) (bonds : List (ℕ × ℕ))
      (same : (i j : ℕ) → has_pair bonds i j ≡ has_pair (inner_steps parts lines) i j) where
    abbrev test : ℕ → ℕ → Bool
    test i j = not (i == j) && (not (i == 0 && j == sink) && (leads_to_need needs i j || has_pair bonds i j))

    abbrev other : ℕ → ℕ → Bool
    other i j = not (i == sink) && (not (j == 0) && is_residual_step net (amount_on lines) i j)

    there : (i j : ℕ) → test i j ≡ true → other i j ≡ true
    there i j e =
        let apart = and_parts (not (i == j)) _ e in
        let through = and_parts (not (i == 0 && j == sink)) _ apart.1 in
        elim (or_parts (leads_to_need needs i j) (has_pair bonds i j) through.1) [
          | inl n ↦ absurd (false≢true (sym (ap (λ rows. leads_to_need rows i j) none ∙ no_need (length parts.gains) i j) ∙ n))
          | inr b ↦
              let w = inner_is i j (sym (same i j) ∙ b) in
              and_from (not (i == sink)) _ (not_same i sink w.0) (and_from (not (j == 0)) _ (not_same j 0 w.1) w.2)
        ]

    back : (i j : ℕ) → other i j ≡ true → test i j ≡ true
    back i j e =
        let out = and_parts (not (i == sink)) _ e in
        let up = and_parts (not (j == 0)) _ out.1 in
        let a : i ≢ sink = (λ x. false≢true (sym (not_parts (i == sink) out.0) ∙ eq-eqb i sink x)) in
        let b : j ≢ 0 = (λ x. false≢true (sym (not_parts (j == 0) up.0) ∙ eq-eqb j 0 x)) in
        and_from (not (i == j)) _ (not_same i j (λ x. no_loop i (subst (Step i) (sym x) up.1)))
        (and_from (not (i == 0 && j == sink)) _ (not_from_false _ (false_from_ne_true (i == 0 && j == sink) (λ t.
        let ends = and_parts (i == 0) (j == sink) t in no_through (subst (λ x. Step x sink) (eqb-true i 0 ends.0) (subst (Step i) (eqb-true j sink ends.1) up.1)))))
        (or_right (leads_to_need needs i j) (has_pair bonds i j) (same i j ∙ is_inner i j a b up.1)))

    tests_are : (i j : ℕ) → test i j ≡ other i j
    tests_are i j = same_bool (test i j) (other i j) (there i j) (back i j)

    -- the net of these parts, with the size of the other
    abbrev middle : Net
    middle = record {
      size = length parts.gains;
      supply = λ k. fall_of (gain_at gains k);
      drain = λ k. rise_of (gain_at gains k);
      unbounded = λ i j. not (i == j) && (not (i == 0 && j == suc (length parts.gains)) && (leads_to_need needs i j || has_pair bonds i j));
    }

    -- the net of these parts is the second net
    pub second_is : net_of_parts (record { gains = gains; needs = needs; bonds = bonds }) ≡ second_net net (amount_on lines) (gain_at gains)
    second_is = sized ∙ tested
      where
        sized : net_of_parts (record { gains = gains; needs = needs; bonds = bonds }) ≡ middle
        sized = λ t. record {
          size = many t;
          supply = λ k. fall_of (gain_at gains k);
          drain = λ k. rise_of (gain_at gains k);
          unbounded = λ i j. not (i == j) && (not (i == 0 && j == suc (many t)) && (leads_to_need needs i j || has_pair bonds i j));
        }

        tested : middle ≡ second_net net (amount_on lines) (gain_at gains)
        tested = λ t. record {
          size = length parts.gains;
          supply = λ k. fall_of (gain_at gains k);
          drain = λ k. rise_of (gain_at gains k);
          unbounded = λ i j. tests_are i j t;
        }

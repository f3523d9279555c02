-- What a residual reach has in the nets of an answer of `weight`: with each rotation all that it needs.
use Rattle.std.proofs.Common.{◌≡◌, ◌≢◌, ℕ, suc, ◌<◌, ◌&&◌, ◌||◌, not, eqb, eqb-true, eq-eqb, nat_lt, inl, inr, arith, sym, ap, subst, Bool, true, false, List, length}
use Rattle.std.specs.List.{list_any}
use Rattle.std.proofs.lemmas.Bool.{and_from, or_left, false_from_ne_true, lt-ltb}
use Rattle.std.proofs.lemmas.List.Folds.{list_any_at}
use Rattle.sm_lists.proofs.Counting.{eq_or_ne}
use Rattle.sm_agents.specs.Written.{Written}
use Rattle.sm_agents.specs.declared.kinds.Measure.{Measure}
use Rattle.sm_market.specs.Lists.{row}
use Rattle.sm_market.specs.Matching.{Places}
use Rattle.sm_theory.specs.Chains.{rotation_at, IsNeededBy, AreNeeds}
use Rattle.sm_theory.specs.ClosedSets.{IsMember, IsClosed}
use Rattle.sm_theory.specs.Net.{Net, sink_of, room_of, is_unbounded, IsUnbounded}
use Rattle.sm_theory.specs.Flows.{IsResidualStep, IsResidualReach}
use Rattle.sm_theory.specs.FlowLines.{amount_on}
use Rattle.sm_theory.specs.Conditions.{leads_to_need}
use Rattle.sm_theory.specs.declared.flow_lines.FlowLine.{FlowLine}
use Rattle.sm_theory.proofs.Flow.Steps.{step_of_kind}
use Rattle.sm_theory.proofs.Net.Paths.{reach_on}
use Rattle.sm_theory.proofs.Net.Tests.{not_same}
use Rattle.sm_seats.specs.SeatMarket.{seat_market}
use Rattle.sm_seats.specs.Seating.{seating_of}
use Rattle.sm_seats.specs.ShownNet.{forces, forbids, net_shown, second_net_shown}
use Rattle.sm_answer_weight.specs.WeightAnswer.{AreCertificates}

-- with a rotation a reach has each one to which an unbounded edge leads
reach_more : (net : Net) (flow : ℕ → ℕ → ℕ) (set : List Bool) → IsResidualReach net flow set → (i j : ℕ) → i < net.size → j < net.size → IsMember set j → IsUnbounded net (suc j) (suc i) → IsMember set i
reach_more net flow set r i j a b member edge =
    let step : IsResidualStep net flow (suc j) (suc i) = step_of_kind net flow (suc j) (suc i) (omega (arith, a)) (inl edge) in
    (r.exact i a).1 (reach_on ((r.exact j b).0 member) step)

module _ (by : Measure) (w : Written) (first : Places) (rotations : List (List (ℕ × ℕ))) (needs : List (List ℕ)) (needed : AreNeeds (seat_market w) rotations needs) where
  abbrev net : Net
  net = net_shown by w first rotations needs

  -- what conditions lead to
  abbrev condition_edge : ℕ → ℕ → Bool
  condition_edge i j = list_any (λ pair. forces (seating_of w) first rotations pair i j) w.forced || list_any (λ pair. forbids (seating_of w) first rotations pair i j) w.forbidden

  abbrev other : (ℕ → ℕ → ℕ) → Net
  other flow = second_net_shown by w first rotations needs flow

  module _ (i j : ℕ) (a : i < length rotations) (b : j < length rotations) (need : IsNeededBy (seat_market w) (rotation_at rotations i) (rotation_at rotations j)) (apart : i ≢ j) where
    -- an edge leads from a rotation to what it needs
    need_edge : IsUnbounded net (suc j) (suc i)
    need_edge =
        let at = (needed.each j b).all i a need in
        let test : leads_to_need needs (suc j) (suc i) ≡ true = list_any_at (λ x. eqb x i) (row needs j) at.0 i at.1 (eq-eqb _ _ at.2) in
        let inner : eqb (suc j) 0 ≡ false = false_from_ne_true (eqb (suc j) 0) (λ e. let z = eqb-true (suc j) 0 e in omega (arith, z)) in
        let across = eqb (suc j) 0 && eqb (suc i) (suc (length rotations)) in
        let kinds = leads_to_need needs (suc j) (suc i) || condition_edge (suc j) (suc i) in
        and_from (not (eqb (suc j) (suc i))) (not across && kinds) (not_same (suc j) (suc i) (λ e. apart (omega (arith, e))))
        (and_from (not across) kinds (ap (λ t. not (t && eqb (suc i) (suc (length rotations)))) inner) (or_left (leads_to_need needs (suc j) (suc i)) (condition_edge (suc j) (suc i)) test))

    -- in the second net, too
    second_need_edge : (flow : ℕ → ℕ → ℕ) → IsUnbounded (other flow) (suc j) (suc i)
    second_need_edge flow =
        let room = nat_lt (flow (suc j) (suc i)) (room_of net (suc j) (suc i)) || nat_lt 0 (flow (suc i) (suc j)) in
        let residual = is_unbounded net (suc j) (suc i) || room in
        and_from (not (eqb (suc j) (sink_of net))) (not (eqb (suc i) 0) && (nat_lt (suc i) (suc (sink_of net)) && residual)) (not_same (suc j) (sink_of net) (λ e. omega (arith, b, e)))
        (and_from (not (eqb (suc i) 0)) (nat_lt (suc i) (suc (sink_of net)) && residual) (not_same (suc i) 0 (λ e. omega (arith, e)))
        (and_from (nat_lt (suc i) (suc (sink_of net))) residual (lt-ltb (suc i) (suc (sink_of net)) (omega (arith, a))) (or_left (is_unbounded net (suc j) (suc i)) room need_edge)))

  -- a set that has whatever an edge leads to from a member is closed
  closed_by : (set : List Bool) → length set ≡ length rotations
      → ((i j : ℕ) → i < length rotations → j < length rotations → IsMember set j → IsNeededBy (seat_market w) (rotation_at rotations i) (rotation_at rotations j) → i ≢ j → IsMember set i) → IsClosed (seat_market w) rotations set
  closed_by set one more = record {
    one_each = one;
    closed = λ i j a b member need. elim (eq_or_ne i j) [ inl e ↦ subst (IsMember set) (sym e) member | inr apart ↦ more i j a b member need apart ];
  }

  -- so the set of certificates is closed
  pub certified_closed : (two : Bool) (flow second : List FlowLine) (taken : List Bool) → AreCertificates two net (other (amount_on flow)) flow second taken → IsClosed (seat_market w) rotations taken
  certified_closed true flow second taken c =
      let reach = c.1.reach in
      closed_by taken reach.one_each (λ i j a b member need apart.
      reach_more (other (amount_on flow)) (amount_on second) taken reach i j a b member (second_need_edge i j a b need apart (amount_on flow)))
  certified_closed false flow second taken c =
      let reach = c.0.reach in
      closed_by taken reach.one_each (λ i j a b member need apart. reach_more net (amount_on flow) taken reach i j a b member (need_edge i j a b need apart))

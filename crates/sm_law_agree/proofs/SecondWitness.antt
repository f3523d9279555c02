-- The answer of `weight` in two levels of specs/Witnesses.antt.
use Rattle.std.proofs.Common.{◌≡◌, ℕ, zero, suc, ◌<◌, ◌≤◌, inl, inr, List, [], ◌∷◌, refl, sym, ap, subst, arith, ne_eqb}
use Rattle.std.specs.Prelude.{pos, negsuc}
use Rattle.std.specs.Int.RustNames.{unsigned_abs}
use Rattle.std.proofs.lemmas.List.Elements.{All-cons}
use Rattle.sm_text.specs.Limits.{most_weight}
use Rattle.sm_agents.specs.Sound.{IsInstance}
use Rattle.sm_instance.specs.Lightest.{IsLightestByBoth}
use Rattle.sm_agents.specs.declared.kinds.Measure.TheVariants.{Given}
use Rattle.sm_answer.proofs.AnswerLemmas.{one_all}
use Rattle.sm_theory.specs.ClosedSets.{matching_of}
use Rattle.sm_theory.specs.Net.{Net, sink_of, HasEdge}
use Rattle.sm_theory.specs.Flows.{IsFlow, IsResidualReach}
use Rattle.sm_theory.specs.FlowLines.{line_at, amount_on, IsLineBefore, AreFlowLines}
use Rattle.sm_theory.specs.SecondNets.{second_net_of}
use Rattle.sm_theory.specs.declared.flow_lines.FlowLine.{FlowLine}
use Rattle.sm_theory.specs.Witnesses.{three_cycle, three_cycle_first, three_cycle_chain}
use Rattle.sm_theory.specs.WitnessesFlows.{three_cycle_levels, three_cycle_needs, three_cycle_flow}
use Rattle.sm_theory.specs.WitnessesLines.{line, three_cycle_lines}
use Rattle.sm_theory.specs.WitnessesSecond.{first_weights, second_weights, first_level_net, second_level_flow}
use Rattle.sm_theory.proofs.Flow.Witness.{worked_net}
use Rattle.sm_theory.proofs.Flow.SecondWitness.{worked_second_net}
use Rattle.sm_theory.proofs.Tests.Markets.{three_cycle_is}
use Rattle.sm_theory.proofs.Weighing.Second.{certificate_of_two}
use Rattle.sm_seats.specs.Seating.{seating_of, written_of}
use Rattle.sm_seats.specs.Correspondence.{IsSeating}
use Rattle.sm_seats.proofs.CorrespondenceLaws.{is_seating, sound_entries}
use Rattle.sm_seats.specs.ShownNet.{net_shown, second_net_shown}
use Rattle.sm_seats.proofs.SecondLemmas.{lightest_by_both}
use Rattle.sm_seats.proofs.ShownNetLemmas.{net_is_shown, second_net_is_shown}
use Rattle.sm_answer_weight.specs.WeightAnswer.{FillsCut, IsCertificate, IsWeightAnswer}
use Rattle.sm_answer_weight.specs.Witnesses.{parts_of_two, answer_of_two}
use Rattle.sm_law_agree.specs.Witnesses.{weighed_by_two, WeighedByTwo}
use Rattle.sm_law_agree.proofs.WeightWitness.{sound_weights, set, closed, allowed, two_sound}

-- Its weights are sound.
two_instance : IsInstance weighed_by_two
two_instance = sound_weights (0, 1, pos 4) (1, 0, pos 0) weighed_by_two.seconds (record { proposer = omega arith; reviewer = omega arith }) (record { proposer = omega arith; reviewer = omega arith })
    (λ same. let e : ◌≡◌ {A = ℕ} 0 1 = ap (λ (pair : ℕ × ℕ). pair.0) same in omega (arith, e)) (omega arith) (omega arith)
    refl (All-cons (λ z. unsigned_abs z ≤ most_weight) (pos 1) (negsuc 1 ∷ []) (omega arith) (one_all (λ z. unsigned_abs z ≤ most_weight) (negsuc 1) (omega arith)))

-- Both flows go round the same way.

abbrev round : ℕ → List FlowLine
round amount = line 0 2 amount ∷ line 1 3 amount ∷ line 2 1 amount ∷ []

-- so their lines are in order, on edges of any net of two inner nodes with these three
lines_of : (net : Net) (amount : ℕ) → net.size ≡ 2 → 0 < amount → HasEdge net 0 2 → HasEdge net 1 3 → HasEdge net 2 1 → AreFlowLines net (round amount)
lines_of net amount two some a b c = record { rising = rising; positive = positive; edges = edges; nodes = nodes }
  where
    rising : (i j : ℕ) → i < j → j < 3 → IsLineBefore (line_at (round amount) i) (line_at (round amount) j)
    rising i zero less few = absurd (omega arith)
    rising zero (suc zero) less few = inl (omega arith)
    rising (suc i) (suc zero) less few = absurd (omega arith)
    rising zero (suc (suc zero)) less few = inl (omega arith)
    rising (suc zero) (suc (suc zero)) less few = inl (omega arith)
    rising (suc (suc i)) (suc (suc zero)) less few = absurd (omega arith)
    rising i (suc (suc (suc j))) less few = absurd (omega arith)

    positive : (i : ℕ) → i < 3 → 0 < (line_at (round amount) i).amount
    positive zero few = some
    positive (suc zero) few = some
    positive (suc (suc zero)) few = some
    positive (suc (suc (suc i))) few = absurd (omega arith)

    edges : (i : ℕ) → i < 3 → HasEdge net (line_at (round amount) i).from (line_at (round amount) i).to
    edges zero few = a
    edges (suc zero) few = b
    edges (suc (suc zero)) few = c
    edges (suc (suc (suc i))) few = absurd (omega arith)

    nodes : (i : ℕ) → i < 3 → ((line_at (round amount) i).from < suc (sink_of net)) × ((line_at (round amount) i).to < suc (sink_of net))
    nodes zero few = (omega arith, omega arith)
    nodes (suc zero) few = (omega arith, omega arith)
    nodes (suc (suc zero)) few = (omega arith, omega arith)
    nodes (suc (suc (suc i))) few = absurd (omega arith)

abbrev second_lines : List FlowLine
second_lines = round 1

-- the amounts on the lines are those of the worked flows
same : (i j : ℕ) → (three_cycle_flow i j ≡ amount_on three_cycle_lines i j) × (second_level_flow i j ≡ amount_on second_lines i j)
same zero zero = (refl, refl)
same zero (suc zero) = (refl, refl)
same zero (suc (suc zero)) = (refl, refl)
same zero (suc (suc (suc j))) = let ne = ne_eqb 2 (suc (suc (suc j))) (λ e. omega (arith, e)) in (rw ne refl, rw ne refl)
same (suc zero) zero = (refl, refl)
same (suc zero) (suc zero) = (refl, refl)
same (suc zero) (suc (suc zero)) = (refl, refl)
same (suc zero) (suc (suc (suc zero))) = (refl, refl)
same (suc zero) (suc (suc (suc (suc j)))) = let ne = ne_eqb 3 (suc (suc (suc (suc j)))) (λ e. omega (arith, e)) in (rw ne refl, rw ne refl)
same (suc (suc zero)) zero = (refl, refl)
same (suc (suc zero)) (suc zero) = (refl, refl)
same (suc (suc zero)) (suc (suc j)) = let ne = ne_eqb 1 (suc (suc j)) (λ e. omega (arith, e)) in (rw ne refl, rw ne refl)
same (suc (suc (suc i))) j =
    let a = ne_eqb 0 (suc (suc (suc i))) (λ e. omega (arith, e)) in
    let b = ne_eqb 1 (suc (suc (suc i))) (λ e. omega (arith, e)) in
    let c = ne_eqb 2 (suc (suc (suc i))) (λ e. omega (arith, e)) in
    (rw (a, b, c) refl, rw (a, b, c) refl)

first_same : ◌≡◌ {A = ℕ → ℕ → ℕ} three_cycle_flow (amount_on three_cycle_lines)
first_same = λ t i j. (same i j).0 t

second_same : ◌≡◌ {A = ℕ → ℕ → ℕ} second_level_flow (amount_on second_lines)
second_same = λ t i j. (same i j).1 t

-- the second net of a flow
abbrev net_on : (ℕ → ℕ → ℕ) → Net
net_on flow = second_net_of three_cycle three_cycle_levels first_weights second_weights [] [] three_cycle_first three_cycle_chain three_cycle_needs flow

abbrev other : Net
other = net_on (amount_on three_cycle_lines)

fills : FillsCut first_level_net three_cycle_lines set
fills = record {
  lines = lines_of first_level_net 4 refl (omega arith) (inr (omega arith)) (inr (omega arith)) (inl refl);
  is_flow = subst (IsFlow first_level_net) first_same worked_second_net.0;
  full = refl;
}

second_flow : IsFlow other (amount_on second_lines)
second_flow = subst (λ (flow : ℕ → ℕ → ℕ). IsFlow (net_on flow) (amount_on second_lines)) first_same (subst (IsFlow (net_on three_cycle_flow)) second_same worked_second_net.8)

second_reach : IsResidualReach other (amount_on second_lines) set
second_reach =
    subst (λ (flow : ℕ → ℕ → ℕ). IsResidualReach (net_on flow) (amount_on second_lines) set) first_same
    (subst (λ (flow : ℕ → ℕ → ℕ). IsResidualReach (net_on three_cycle_flow) flow set) second_same worked_second_net.10)

certificate : IsCertificate other second_lines set
certificate = record {
  fills = record {
    lines = lines_of other 1 refl (omega arith) (inr (omega arith)) (inr (omega arith)) (inl refl);
    is_flow = second_flow;
    full = refl;
  };
  reach = second_reach;
}

seating : IsSeating weighed_by_two (seating_of weighed_by_two)
seating = is_seating (sound_entries two_instance)

lightest : IsLightestByBoth Given weighed_by_two (written_of (seating_of weighed_by_two) (matching_of three_cycle three_cycle_first three_cycle_chain set).proposers)
lightest =
    let both = certificate_of_two three_cycle three_cycle_levels first_weights second_weights [] [] three_cycle_first three_cycle_chain three_cycle_needs (amount_on three_cycle_lines) (amount_on second_lines) set
    worked_net.0 closed allowed fills.is_flow refl second_flow second_reach refl in
    lightest_by_both seating Given (matching_of three_cycle three_cycle_first three_cycle_chain set) both.0 both.1

-- both nets as they are shown are the worked ones
first_shown : net_shown Given weighed_by_two three_cycle_first three_cycle_chain three_cycle_needs ≡ first_level_net
first_shown = net_is_shown seating three_cycle_is.1.chain Given three_cycle_needs

second_shown : second_net_shown Given weighed_by_two three_cycle_first three_cycle_chain three_cycle_needs (amount_on three_cycle_lines) ≡ other
second_shown = second_net_is_shown seating three_cycle_is.1.chain Given refl three_cycle_needs (amount_on three_cycle_lines)

right : IsWeightAnswer Given weighed_by_two answer_of_two
right = record {
  parts = parts_of_two;
  printed = three_cycle_is.1;
  needed = record { one_each = refl; each = worked_net.0.each };
  certificates = (
    subst (λ (net : Net). FillsCut net three_cycle_lines set) (sym first_shown) fills,
    subst (λ (net : Net). IsCertificate net second_lines set) (sym second_shown) certificate,
  );
  lightest = lightest;
  shows = refl;
  sound = two_sound weighed_by_two.weights weighed_by_two.seconds;
}

-- that answer in two levels is a right one
pub weighed_by_two_is : WeighedByTwo
weighed_by_two_is = (two_instance, omega arith, right)

-- Nothing is claimed yet behind the rotations.
use Rattle.std.proofs.Common.{◌≡◌, ℕ, ◌+◌, List, [], ◌∷◌, length, map, take, Option, None, true, false, refl, sym, ap, ◌∙◌, subst, arith}
use Rattle.std.specs.Prelude.{filter_map, not, slice_index_or, IfSome}
use Rattle.std.specs.List.{list_all, cons_option, slice_get}
use Rattle.std.proofs.lemmas.Bool.{false≢true}
use Rattle.sm_lists.proofs.BoolLemmas.{first_true, second_true}
use Rattle.sm_agents.specs.Written.{Written}
use Rattle.sm_agents.specs.declared.kinds.Measure.{Measure}
use Rattle.sm_theory.specs.FlowLines.{AreOnNodes}
use Rattle.sm_theory.specs.declared.flow_lines.FlowLine.{FlowLine}
use Rattle.sm_check_net.specs.CheckedNets.{NetParts, net_of_parts, NeedsAreOf}
use Rattle.sm_check_net.specs.Second.{AreOnEdges}
use Rattle.sm_check_net.specs.Repeats.{AreRepeats}
use Rattle.sm_seats.specs.SeatMarket.{seat_market}
use Rattle.sm_report.specs.Lines.{LineData}
use Rattle.sm_check_forms.specs.Layouts.{is_empty}
use Rattle.sm_check_clauses.specs.Said.{rotations_in, flow_in, second_flow_in, taken_in, value_in, second_value_in, pair_in, pairs_in, is_up_to_rotations}
use Rattle.sm_check_clauses.specs.SeatMatchings.{first_of}
use Rattle.sm_check_clauses.specs.Flows.{size_in, net_in, on_nodes, second_level}
use Rattle.sm_check_answers.specs.Stood.{AreStood}
use Rattle.sm_check_weight.specs.declared.claims.Claim.{Claim}
use Rattle.sm_check_weight.specs.declared.said.SaidFlow.{SaidFlow}
use Rattle.sm_check_weight.specs.Kept.{IsClaimOf, IsSaidOf, IsSetOf}

-- a line up to the rotations says nothing of a flow, a set, a value and a pair
pub record IsUnsaid (x : LineData) : Type 0 where
  pub flow : flow_in x ≡ None
  pub second_flow : second_flow_in x ≡ None
  pub taken : taken_in x ≡ None
  pub value : value_in x ≡ None
  pub second_value : second_value_in x ≡ None
  pub pair : pair_in x ≡ None

up_to_unsaid : (x : LineData) → is_up_to_rotations x ≡ true → IsUnsaid x
up_to_unsaid (LineData.Answer head) e = record { flow = refl; second_flow = refl; taken = refl; value = refl; second_value = refl; pair = refl }
up_to_unsaid (LineData.First p seat) e = record { flow = refl; second_flow = refl; taken = refl; value = refl; second_value = refl; pair = refl }
up_to_unsaid (LineData.Rotation i pairs) e = record { flow = refl; second_flow = refl; taken = refl; value = refl; second_value = refl; pair = refl }
up_to_unsaid (LineData.Needs i needed) e = record { flow = refl; second_flow = refl; taken = refl; value = refl; second_value = refl; pair = refl }
up_to_unsaid (LineData.SecondGain i gain) e = record { flow = refl; second_flow = refl; taken = refl; value = refl; second_value = refl; pair = refl }
up_to_unsaid (LineData.Gain i gain) e = record { flow = refl; second_flow = refl; taken = refl; value = refl; second_value = refl; pair = refl }
up_to_unsaid _ e = absurd (false≢true e)

-- nor do all such lines
unsaid : {X : Type 0} (said : LineData → Option X) → ((x : LineData) → is_up_to_rotations x ≡ true → said x ≡ None) → (above : List LineData) → list_all is_up_to_rotations above ≡ true → filter_map said above ≡ []
unsaid said none [] e = refl
unsaid {X} said none (x ∷ above) e =
    ap (λ (o : Option X). cons_option o (filter_map said above)) (none x (first_true (is_up_to_rotations x) (list_all is_up_to_rotations above) e))
    ∙ unsaid said none above (second_true (is_up_to_rotations x) (list_all is_up_to_rotations above) e)

module _ (above : List LineData) (up_to : list_all is_up_to_rotations above ≡ true) where
  -- they say no set
  none_taken : filter_map taken_in above ≡ []
  none_taken = unsaid taken_in (λ x e. (up_to_unsaid x e).taken) above up_to

  -- they say no pair
  no_pairs : pairs_in above ≡ []
  no_pairs = unsaid pair_in (λ x e. (up_to_unsaid x e).pair) above up_to

  -- none of a flow is judged, and no value is said
  module _ {size number : ℕ} {flow_said : LineData → Option FlowLine} {value_said : LineData → Option ℕ} {lines : List LineData} {said : SaidFlow} (no_flow : (x : LineData) → is_up_to_rotations x ≡ true → flow_said x ≡ None)
      (no_value : (x : LineData) → is_up_to_rotations x ≡ true → value_said x ≡ None) (same : number ≡ size) (all : said.flow.lines.items ≡ map (on_nodes number) (filter_map flow_said lines)) (repeats : AreRepeats said.flow.lines.items said.flow.repeats.items)
      (count : said.flow.count ≡ 0) (value : said.value ≡ None) where
    begun : IsSaidOf size flow_said value_said lines above said
    begun =
        let none : filter_map flow_said above ≡ [] = unsaid flow_said no_flow above up_to in
        record {
          flow = record {
            all = all ∙ ap (λ (n : ℕ). map (on_nodes n) (filter_map flow_said lines)) same;
            repeats = repeats;
            count = count ∙ sym (ap (λ (fs : List FlowLine). length fs) none);
            front = ap (λ (n : ℕ). take n said.flow.lines.items) count ∙ sym (ap (λ (fs : List FlowLine). map (on_nodes size) fs) none);
            nodes = subst (λ (fs : List FlowLine). AreOnNodes (size + 2) (map (on_nodes size) fs)) (sym none) (λ a less. absurd (omega (arith, less)));
          };
          value = value ∙ sym (ap (λ (vs : List ℕ). slice_get vs 0) (unsaid value_said no_value above up_to));
        }

  -- so it is with the flow and with the second one
  pub first_begun : {size number : ℕ} {lines : List LineData} {said : SaidFlow} → number ≡ size → said.flow.lines.items ≡ map (on_nodes number) (filter_map flow_in lines) → AreRepeats said.flow.lines.items said.flow.repeats.items → said.flow.count ≡ 0 → said.value ≡ None
      → IsSaidOf size flow_in value_in lines above said
  first_begun = begun (λ x e. (up_to_unsaid x e).flow) (λ x e. (up_to_unsaid x e).value)

  pub second_begun : {size number : ℕ} {lines : List LineData} {said : SaidFlow} → number ≡ size → said.flow.lines.items ≡ map (on_nodes number) (filter_map second_flow_in lines) → AreRepeats said.flow.lines.items said.flow.repeats.items → said.flow.count ≡ 0 → said.value ≡ None
      → IsSaidOf size second_flow_in second_value_in lines above said
  second_begun = begun (λ x e. (up_to_unsaid x e).second_flow) (λ x e. (up_to_unsaid x e).second_value)

  -- so nothing that is kept of a claim is there yet
  pub claim_begun : {w : Written} {by : Measure} {lines : List LineData} {claim : Claim} → net_of_parts claim.net ≡ net_in w by above → NeedsAreOf (seat_market w) (rotations_in w above) claim.net → IsSaidOf (size_in w above) flow_in value_in lines above claim.first
      → claim.second_net ≡ None → IsSaidOf (size_in w above) second_flow_in second_value_in lines above claim.second → IsSetOf w (first_of w above) (rotations_in w above) [] claim.taken → claim.taken.is_said ≡ false → AreStood w [] claim.stood.stood.items → IsClaimOf w by lines above claim
  claim_begun {w} {by} {lines} {claim} net needs first no_net second taken none stood = record {
    net = net;
    needs = needs;
    first = first;
    edges = subst (λ (fs : List FlowLine). AreOnEdges (net_in w by above) (map (on_nodes (size_in w above)) fs)) (sym (unsaid flow_in (λ x e. (up_to_unsaid x e).flow) above up_to)) (λ a less. absurd (omega (arith, less)));
    second_net = record { same = subst (λ (o : Option NetParts). IfSome o (λ net. net_of_parts net ≡ (second_level w by above).net)) (sym no_net) tt; none = λ _. no_net };
    second = λ _. second;
    taken = subst (λ (ns : List (List ℕ)). IsSetOf w (first_of w above) (rotations_in w above) (slice_index_or ns 0 []) claim.taken) (sym none_taken) taken;
    said = none ∙ sym (ap (λ (ns : List (List ℕ)). not (is_empty ns)) none_taken);
    stood = subst (λ (ps : List (ℕ × ℕ)). AreStood w ps claim.stood.stood.items) (sym no_pairs) stood;
  }

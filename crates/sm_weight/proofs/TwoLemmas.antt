-- What a flow in a net and one in its second net tell: of nets, and of matchings that are lightest by two sums.
use Rattle.std.proofs.Common.{◌≡◌, ℕ, suc, ◌≤◌, arith, refl, sym, ◌∙◌, subst, Bool, false, List, [], map, ℤ, pos}
use Rattle.std.proofs.lemmas.List.{get_or_past}
use Rattle.sm_market.specs.Lists.{Lists}
use Rattle.sm_market.specs.Matching.{Places, standing}
use Rattle.sm_theory.specs.ClosedSets.{IsClosed, matching_of}
use Rattle.sm_theory.specs.Weights.{gain_of}
use Rattle.sm_theory.specs.Net.{Net, IsUnbounded, cut_of, IsLeastCut, IsReachable}
use Rattle.sm_theory.specs.Flows.{flow_value, IsResidualReach}
use Rattle.sm_theory.specs.FlowLines.{amount_on}
use Rattle.sm_theory.specs.Conditions.{allows_nothing, net_of, IsNetGround}
use Rattle.sm_theory.specs.SecondNets.{second_net, second_net_of, IsLightestOfTwo}
use Rattle.sm_theory.proofs.Flow.Steps.{step_end}
use Rattle.sm_theory.proofs.Flow.Cuts.{path_stays, value_is_cut}
use Rattle.sm_theory.proofs.Flow.Second.{step_of_edge, bounded_of_unleft, cut_of_unleft, zero_second_flow}
use Rattle.sm_theory.proofs.Weighing.Second.{second_reach_is_best}
use Rattle.std.proofs.lemmas.Bool.{false≢true}
use Rattle.sm_theory.specs.declared.flow_lines.FlowLine.{FlowLine}
use Rattle.sm_weight.specs.Lines.{IsCutFound}
use Rattle.sm_weight.specs.Second.{gain_at, AreCutsFound}
use Rattle.sm_weight.specs.declared.second.TwoCuts.{TwoCuts}
use Rattle.sm_weight.proofs.NetLemmas.{gains_at}

-- no path of unbounded edges leads through the second net of a flow whose reach no residual step leaves
pub no_second_path : (net : Net) (gains : List ℤ) {members : List Bool} {lines : List FlowLine} {value : ℕ} → IsCutFound net members lines value
    → IsReachable (IsUnbounded (second_net net (amount_on lines) (gain_at gains))) 0 (suc net.size) → ⊥
no_second_path net gains {members} {lines} found path =
    let other : Net = second_net net (amount_on lines) (gain_at gains) in
    let inside = path_stays (second_net net (amount_on lines) (gain_at gains)) (IsUnbounded (second_net net (amount_on lines) (gain_at gains))) members (λ i j u. step_end net (amount_on lines) i j (step_of_edge net (amount_on lines) (gain_at gains) i j u))
    (bounded_of_unleft net (amount_on lines) (gain_at gains) members found.unleft) path.path 0 (suc net.size) (omega arith) refl path.is in
    false≢true (sym (get_or_past members net.size false (omega (arith, found.reach.one_each))) ∙ inside)

-- a flow with what it reaches, and a second one in its second net
pub cuts_found : (net : Net) (gains : List ℤ) {members : List Bool} (two : TwoCuts) → IsCutFound net members two.lines.items two.value
    → IsCutFound (second_net net (amount_on two.lines.items) (gain_at gains)) two.members.items two.second_lines.items two.second_value
    → (((k : ℕ) → gain_at gains k ≡ pos 0) → (two.second_lines.items ≡ []) × (two.second_value ≡ 0) × IsResidualReach net (amount_on two.lines.items) two.members.items)
    → AreCutsFound net gains two
cuts_found net gains {members} two first second none = record {
  ordered = first.ordered;
  is_flow = first.is_flow;
  carries = first.carries;
  full = members;
  full_cut = cut_of_unleft net (amount_on two.lines.items) members first.reach.one_each first.unleft;
  fills = value_is_cut net members first.reach.one_each (amount_on two.lines.items) first.is_flow first.unleft;
  second = second;
  no_gains = none;
}

-- where there are no gains, nothing flows in the second net
pub nothing_found : (net : Net) (gains : List ℤ) {members : List Bool} {lines : List FlowLine} {value : ℕ} → ((k : ℕ) → gain_at gains k ≡ pos 0) → IsCutFound net members lines value
    → IsCutFound (second_net net (amount_on lines) (gain_at gains)) members [] 0
nothing_found net gains {members} {lines} none found =
    let w = zero_second_flow net (amount_on lines) (gain_at gains) members none found.reach found.unleft in
    record {
      ordered = record { rising = λ a b x y. absurd (omega arith); positive = λ a x. absurd (omega arith); edges = λ a x. absurd (omega arith); nodes = λ a x. absurd (omega arith) };
      is_flow = w.0;
      carries = w.1;
      reach = w.3;
      unleft = w.4;
    }

-- so where there are no gains and the second lines are left out
pub without_found : (net : Net) (gains : List ℤ) {members : List Bool} {lines : List FlowLine} {value : ℕ} (two : TwoCuts) → ((k : ℕ) → gain_at gains k ≡ pos 0) → IsCutFound net members lines value
    → two.lines.items ≡ lines → two.value ≡ value → two.members.items ≡ members → two.second_lines.items ≡ [] → two.second_value ≡ 0 → AreCutsFound net gains two
without_found net gains {members} {lines} {value} two none first l v m n z =
    cuts_found net gains {members = members} two (rw (l, v) first) (rw (l, m, n, z) (nothing_found net gains none first)) (λ _. (n, z, rw (l, m) first.reach))

module _ (l : Lists) (levels : List (List ℕ)) (weights seconds : List (List ℤ)) (forced forbidden : List (ℕ × ℕ)) (first : Places) (rotations : List (List (ℕ × ℕ))) (needs : List (List ℕ)) (ground : IsNetGround l levels first rotations needs)
    (some : allows_nothing l levels forced forbidden first rotations ≡ false) (gains : List ℤ) (gains_are : gains ≡ map (gain_of l seconds) rotations) (two : TwoCuts)
    (found : AreCutsFound (net_of l levels weights forced forbidden first rotations needs) gains two) where
  abbrev net : Net
  net = net_of l levels weights forced forbidden first rotations needs

  abbrev other : Net
  other = second_net_of l levels weights seconds forced forbidden first rotations needs (amount_on two.lines.items)

  -- the second net by the gains of the rotations
  other_is : second_net net (amount_on two.lines.items) (gain_at gains) ≡ other
  other_is = λ t. second_net net (amount_on two.lines.items) (λ k. gains_at l seconds rotations gains gains_are k t)

  pub second_found : IsCutFound other two.members.items two.second_lines.items two.second_value
  second_found = subst (λ (o : Net). IsCutFound o two.members.items two.second_lines.items two.second_value) other_is found.second

  abbrev best_of : IsLeastCut net two.members.items × (flow_value net (amount_on two.lines.items) ≡ cut_of net two.members.items)
      × (flow_value other (amount_on two.second_lines.items) ≡ cut_of other two.members.items)
      × IsClosed l rotations two.members.items
      × IsLightestOfTwo l levels weights seconds forced forbidden (matching_of l first rotations two.members.items)
      × ((n : Places) → IsLightestOfTwo l levels weights seconds forced forbidden n → (p : ℕ) → standing l.proposers (matching_of l first rotations two.members.items).proposers p ≤ standing l.proposers n.proposers p)
  best_of = second_reach_is_best l levels weights seconds forced forbidden first rotations needs (amount_on two.lines.items) (amount_on two.second_lines.items) found.full two.members.items ground some
      found.is_flow found.full_cut found.fills second_found.is_flow second_found.reach second_found.unleft

  -- the set is that of the best of the matchings that are lightest by both sums, and the values are its cuts
  pub two_closed : IsClosed l rotations two.members.items
  two_closed = best_of.3

  pub two_lightest : IsLightestOfTwo l levels weights seconds forced forbidden (matching_of l first rotations two.members.items)
  two_lightest = best_of.4

  pub two_best : (n : Places) → IsLightestOfTwo l levels weights seconds forced forbidden n → (p : ℕ) → standing l.proposers (matching_of l first rotations two.members.items).proposers p ≤ standing l.proposers n.proposers p
  two_best = best_of.5

  pub first_cut : cut_of net two.members.items ≡ two.value
  first_cut = sym best_of.1 ∙ found.carries

  pub second_cut : cut_of other two.members.items ≡ two.second_value
  second_cut = sym best_of.2 ∙ second_found.carries

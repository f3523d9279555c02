use Rattle.std.proofs.Common.{◌≡◌, ℕ, suc, ◌+◌, ◌<◌, ◌++◌, arith, ap, ◌∙◌, List}
use Rattle.std.specs.Prelude.{nat_lt}
use Rattle.std.proofs.lemmas.List.{append_assoc}
use Rattle.sm_theory.specs.Net.{Net}
use Rattle.sm_theory.specs.declared.flow_lines.FlowLine.{FlowLine}
use Rattle.sm_theory.specs.FlowLines.{amount_on}
use Rattle.sm_check_net.specs.CheckedNets.{net_of_parts}
use Rattle.sm_check_net.specs.Residual.{pair_if, joined, supply_steps}
use Rattle.sm_check_net.proofs.FlowLemmas.{amount_at}
use Rattle.sm_check_net.proofs.residual.add_supplies.Goals as goal

pub loop-k-preserved : goal.loop-k-preserved
loop-k-preserved c =
    let k : ℕ = c.loop-k.k in
    let net : Net = net_of_parts c.args.net.now in
    let lines : List FlowLine = c.args.lines.now in
    let there : k + 1 < c.nodes.result = omega (arith, c.loop-k-test.true, c.size-k-end.ensures.size, c.loop-k.auto.k-end, c.nodes.ensures) in
    let amount : c.index.result.now ≡ amount_on lines 0 (k + 1) = amount_at c.in_ok-amounts.ensures (k + 1) there c.index.ensures in
    let room : c.from.result ≡ net.supply k = omega (arith, c.from.ensures, c.supply.ensures) in
    let next : suc k ≡ k + 1 = omega arith in
    c.in_ok-add_if.ensures
    ∙ (λ t. c.loop-k.steps.items ++ pair_if (nat_lt (amount t) (room t)) 0 (k + 1))
    ∙ ap (λ (xs : List (ℕ × ℕ)). xs ++ supply_steps net lines k) c.loop-k.invariant
    ∙ append_assoc c.args.steps.now.items (joined (supply_steps net lines) k) (supply_steps net lines k)
    ∙ ap (λ n. c.args.steps.now.items ++ joined (supply_steps net lines) n) next

use Rattle.std.proofs.Common.{◌≡◌, ℕ, suc, ◌+◌, ◌<◌, ◌++◌, arith, ap, ◌∙◌, List}
use Rattle.std.specs.Prelude.{nat_lt}
use Rattle.std.proofs.lemmas.List.{append_assoc}
use Rattle.sm_theory.specs.Net.{Net, sink_of}
use Rattle.sm_theory.specs.declared.flow_lines.FlowLine.{FlowLine}
use Rattle.sm_theory.specs.FlowLines.{amount_on}
use Rattle.sm_check_net.specs.CheckedNets.{net_of_parts}
use Rattle.sm_check_net.specs.Residual.{pair_if, joined, drain_steps}
use Rattle.sm_check_net.proofs.FlowLemmas.{amount_at}
use Rattle.sm_check_net.proofs.residual.add_drains.Goals as goal

pub loop-k-preserved : goal.loop-k-preserved
loop-k-preserved c =
    let k : ℕ = c.loop-k.k in
    let net : Net = net_of_parts c.args.net.now in
    let lines : List FlowLine = c.args.lines.now in
    let there : k + 1 < c.nodes.result = omega (arith, c.loop-k-test.true, c.size-k-end.ensures.size, c.loop-k.auto.k-end, c.nodes.ensures) in
    let sink : c.size-sink.result + 1 ≡ sink_of net = omega (arith, c.size-sink.ensures.size) in
    let amount : c.index.result.now ≡ amount_on lines (k + 1) (sink_of net) = amount_at c.in_ok-amounts.ensures (k + 1) there c.index.ensures ∙ ap (amount_on lines (k + 1)) sink in
    let room : c.from.result ≡ net.drain k = omega (arith, c.from.ensures, c.drain.ensures) in
    let next : suc k ≡ k + 1 = omega arith in
    c.in_ok-add_if.ensures
    ∙ (λ t. c.loop-k.steps.items ++ pair_if (nat_lt (amount t) (room t)) (k + 1) (sink t))
    ∙ ap (λ (xs : List (ℕ × ℕ)). xs ++ drain_steps net lines k) c.loop-k.invariant
    ∙ append_assoc c.args.steps.now.items (joined (drain_steps net lines) k) (drain_steps net lines k)
    ∙ ap (λ n. c.args.steps.now.items ++ joined (drain_steps net lines) n) next

use Rattle.std.proofs.Common.{ℕ, arith, refl, sym, eq-eqb, ne_eqb}
use Rattle.sm_theory.specs.FlowLines.{line_at}
use Rattle.sm_theory.specs.declared.flow_lines.FlowLine.{FlowLine}
use Rattle.sm_check_net.proofs.FlowLemmas.{one_summed, to_summed}
use Rattle.sm_check_net.proofs.flow_sums.amounts_to_node.Goals as goal

pub loop-line-preserved : goal.loop-line-preserved
loop-line-preserved c =
    let i : ℕ = c.loop-line.line-index in
    let line : FlowLine = line_at c.args.lines.now i in
    let s = one_summed i line.from c.index_mut.result.now c.from.result c.loop-line.invariant c.loop-line-test.true ((c.requires.nodes i c.loop-line-test.true).0)
    c.index_mut.ensures.value (omega (arith, c.from.ensures)) (rw (eq-eqb line.from line.from refl) (omega (arith, c.from.ensures, c.carried_to.ensures)))
    (λ v ne. rw (ne_eqb line.from v (λ e. ne (sym e))) refl) in
    s

pub returns : goal.returns
returns c = to_summed _ c.loop-line.line-index c.loop-line.invariant (omega (arith, c.loop-line-test.false, c.loop-line.auto.line-index-end))

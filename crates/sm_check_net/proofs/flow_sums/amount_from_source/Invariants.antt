use Rattle.std.proofs.Common.{◌≡◌, ◌*◌, ◌≤◌, take}
use Rattle.sm_theory.specs.FlowLines.{amount_from}
use Rattle.sm_check_net.proofs.flow_sums.amount_from_source.Given as goal

abbrev pub invariant-loop-line : goal.invariant-loop-line
invariant-loop-line l = record {
  sum : l.amount ≡ amount_from (take l.line-index l.lines) 0;
  small : l.amount ≤ l.line-index * 18446744073709551615;
}

use Rattle.sm_least.specs.Steps.{IsNarrowed}
use Rattle.sm_least.proofs.gates.narrow.Given as goal

abbrev pub invariant-loop-p : goal.invariant-loop-p
invariant-loop-p l = IsNarrowed l.matched l.forced l.p-index l.initial.low l.initial.high l.low l.high

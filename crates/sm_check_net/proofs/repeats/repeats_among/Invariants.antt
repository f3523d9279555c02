use Rattle.sm_check_net.proofs.RepeatLemmas.{AreMet}
use Rattle.sm_check_net.proofs.repeats.repeats_among.Given as goal

abbrev pub invariant-loop-line : goal.invariant-loop-line
invariant-loop-line l = AreMet l.lines l.ends l.met.items l.repeats.items l.line-index

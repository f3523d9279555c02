use Rattle.std.proofs.Common.{◌≡◌, ◌-◌, length}
use Rattle.sm_text.specs.Tokens.{run_end}
use Rattle.sm_text.proofs.tokens.run_end.Given as goal

abbrev pub invariant-loop-at : goal.invariant-loop-at
invariant-loop-at l = run_end l.line l.at ≡ run_end l.line l.from

abbrev pub decreases-loop-at : goal.decreases-loop-at
decreases-loop-at l = length l.line - l.at

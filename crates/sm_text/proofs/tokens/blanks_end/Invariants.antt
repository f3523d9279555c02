use Rattle.std.proofs.Common.{◌≡◌, ◌-◌, length}
use Rattle.sm_text.specs.Tokens.{blanks_end}
use Rattle.sm_text.proofs.tokens.blanks_end.Given as goal

abbrev pub invariant-loop-at : goal.invariant-loop-at
invariant-loop-at l = blanks_end l.line l.at ≡ blanks_end l.line l.from

abbrev pub decreases-loop-at : goal.decreases-loop-at
decreases-loop-at l = length l.line - l.at

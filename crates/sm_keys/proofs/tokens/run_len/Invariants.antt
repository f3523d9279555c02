use Rattle.std.proofs.Common.{◌≡◌, ◌+◌}
use Rattle.sm_text.specs.Tokens.{run_end}
use Rattle.sm_keys.proofs.tokens.run_len.Given as goal

-- the run that goes on here ends where that from the start does
abbrev pub invariant-run : goal.invariant-run
invariant-run l = run_end l.line (l.at + l.len) ≡ run_end l.line (l.at + 1)

use Rattle.std.proofs.Common.{◌≡◌, true, take}
use Rattle.std.specs.List.{list_all}
use Rattle.sm_text.specs.Tokens.{begins_run}
use Rattle.sm_text.specs.Slices.{texts_of}
use Rattle.sm_forms.proofs.forms.are_runs.Given as goal

-- all tokens so far are runs
abbrev pub invariant-tokens : goal.invariant-tokens
invariant-tokens l = list_all begins_run (texts_of (take l.token-index l.tokens)) ≡ true

use Rattle.std.proofs.Common.{◌∙◌, sym}
use Rattle.sm_keys.specs.Tokens.{is_bad}
use Rattle.sm_keys.proofs.EnoughLemmas.{enough_any}
use Rattle.sm_keys.proofs.long.cut_long.Goals as goal

pub returns-clause-bad : goal.returns-clause-bad
returns-clause-bad c = c.in_ok-bad.ensures.bad ∙ sym (enough_any is_bad _ _ c.in_ok-bad.ensures.enough)

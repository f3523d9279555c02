use Rattle.std.proofs.Common.{◌∙◌}
use Rattle.sm_check_forms.proofs.KeywordWords.{same_words}
use Rattle.sm_check_forms.proofs.layouts.is_same.Goals as goal

pub returns : goal.returns
returns c = c.eq.ensures ∙ same_words c.args.a c.args.b

use Rattle.sm_check_forms.proofs.LayoutLemmas.{whole_is_begun}
use Rattle.sm_check_forms.proofs.laws.whole_is_begun.Goals as goal

pub returns : goal.returns
returns c = whole_is_begun

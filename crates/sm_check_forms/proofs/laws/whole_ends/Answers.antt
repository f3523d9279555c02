use Rattle.sm_check_forms.proofs.LayoutLemmas.{whole_ends}
use Rattle.sm_check_forms.proofs.laws.whole_ends.Goals as goal

pub returns : goal.returns
returns c = whole_ends

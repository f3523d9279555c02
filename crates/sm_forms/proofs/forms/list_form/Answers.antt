use Rattle.sm_forms.proofs.NameLemmas.{names_rest}
use Rattle.sm_forms.proofs.forms.list_form.Goals as goal

pub are_runs-requires : goal.are_runs-requires
are_runs-requires c = names_rest c.args.names 2 c.args.rest.now c.requires

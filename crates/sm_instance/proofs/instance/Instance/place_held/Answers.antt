use Rattle.sm_instance.proofs.AcceptLemmas.{held_on}
use Rattle.sm_instance.proofs.instance.Instance.place_held.Goals as goal

pub returns-clause-on_list : goal.returns-clause-on_list
returns-clause-on_list c = held_on c.requires.assignment c.args.p c.held_place.result c.held_place.ensures

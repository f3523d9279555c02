use Rattle.std.proofs.Common.{◌∙◌}
use Rattle.sm_check_net.proofs.NetLemmas.{found_is}
use Rattle.sm_check_net.proofs.net.has_number.Goals as goal

pub returns : goal.returns
returns c = c.is_ok.ensures.value ∙ found_is c.args.numbers.now c.args.j c.binary_search.result c.requires c.binary_search.ensures.position

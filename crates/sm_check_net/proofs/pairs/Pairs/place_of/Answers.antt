use Rattle.sm_check_net.proofs.PairLemmas.{first_among}
use Rattle.sm_check_net.proofs.pairs.Pairs.place_of.Goals as goal

pub returns : goal.returns
returns c = first_among c.before-2.ensures.ordered c.before-2.ensures.parted c.requires

use Rattle.sm_successors.proofs.NextLemmas.{first_is}
use Rattle.sm_check_decide.proofs.needs.place_behind.Goals as goal

pub returns : goal.returns
returns c = first_is (c.requires.exposed.next c.args.i c.requires.in_range) c.first_taker.ensures.passed c.first_taker.ensures.behind c.first_taker.ensures.takes

use Rattle.std.proofs.lemmas.Bool.{false≢true}
use Rattle.sm_check_net.proofs.PairLemmas.{first_of, has_pair-none}
use Rattle.sm_check_net.proofs.pairs.Pairs.place.Goals as goal

pub returns-then-stands_at : goal.returns-then-stands_at
returns-then-stands_at c = first_of c.before-k.ensures.parted (c.stands_at.ensures.0 c.if-stands_at.true)

pub returns-else-stands_at : goal.returns-else-stands_at
returns-else-stands_at c = has_pair-none c.before-k.ensures.ordered c.before-k.ensures.parted (λ here. false≢true (c.if-stands_at.ensures.1 here))

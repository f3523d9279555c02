use Rattle.sm_holding.proofs.PairLemmas.{joins_by}
use Rattle.sm_check_answers.proofs.pairs.joins.Goals as goal

pub returns : goal.returns
returns c = λ pairs k. joins_by k c.args.p c.args.r c.requires.proposer c.add.new.self c.add.result c.add.ensures

use Rattle.sm_reader.proofs.ListedLemmas.{side_found}
use Rattle.sm_reader.proofs.listed.side_of.Goals as goal

pub returns-in_default : goal.returns-in_default
returns-in_default c = side_found c.args.kind c.args.word.now c.side_by.result c.in_default.not-Roommates c.side_by.ensures

use Rattle.sm_successors.proofs.SearchLemmas.{search_begins}
use Rattle.sm_successors.proofs.laws.search_begins.Goals as goal

pub returns : goal.returns
returns c = search_begins

use Rattle.sm_successors.proofs.SearchLemmas.{search_goes_on}
use Rattle.sm_successors.proofs.laws.search_goes_on.Goals as goal

pub returns : goal.returns
returns c = search_goes_on

use Rattle.sm_lister.proofs.RestLemmas.{listing_gives}
use Rattle.sm_lister.proofs.laws.listing_gives.Goals as goal

pub returns : goal.returns
returns c = listing_gives

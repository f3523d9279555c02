use Rattle.sm_trim.proofs.AnswerLaws.{trims_keep_listings}
use Rattle.sm_trim.proofs.laws.trims_keep_listings.Goals as goal

pub returns : goal.returns
returns c = trims_keep_listings

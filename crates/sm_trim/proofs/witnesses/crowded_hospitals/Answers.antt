use Rattle.sm_trim.proofs.WitnessLemmas.{reviewers_list_ends, proposers_list_ends, unmatched_list_stays}
use Rattle.sm_trim.proofs.witnesses.crowded_hospitals.Goals as goal

pub returns-clause-reviewers : goal.returns-clause-reviewers
returns-clause-reviewers c = reviewers_list_ends

pub returns-clause-proposers : goal.returns-clause-proposers
returns-clause-proposers c = proposers_list_ends

pub returns-clause-unmatched : goal.returns-clause-unmatched
returns-clause-unmatched c = unmatched_list_stays

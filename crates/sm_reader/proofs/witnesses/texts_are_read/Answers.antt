use Rattle.sm_reader.proofs.WitnessLemmas.{texts_mean}
use Rattle.sm_reader.proofs.witnesses.texts_are_read.Goals as goal

pub returns-clause-hospitals : goal.returns-clause-hospitals
returns-clause-hospitals c = texts_mean.5

pub returns-clause-roommates : goal.returns-clause-roommates
returns-clause-roommates c = texts_mean.6

pub returns-clause-returns : goal.returns-clause-returns
returns-clause-returns c = texts_mean.7

pub returns-clause-second : goal.returns-clause-second
returns-clause-second c = texts_mean.10

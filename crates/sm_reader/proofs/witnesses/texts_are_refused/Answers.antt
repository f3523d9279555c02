use Rattle.sm_reader.proofs.WitnessLemmas.{texts_mean}
use Rattle.sm_reader.proofs.witnesses.texts_are_refused.Goals as goal

pub returns-clause-headers : goal.returns-clause-headers
returns-clause-headers c = texts_mean.0

pub returns-clause-each : goal.returns-clause-each
returns-clause-each c = texts_mean.1

pub returns-clause-first : goal.returns-clause-first
returns-clause-first c = texts_mean.2

pub returns-clause-hospitals : goal.returns-clause-hospitals
returns-clause-hospitals c = texts_mean.3

pub returns-clause-earlier : goal.returns-clause-earlier
returns-clause-earlier c = texts_mean.4

pub returns-clause-added : goal.returns-clause-added
returns-clause-added c = texts_mean.8

pub returns-clause-second : goal.returns-clause-second
returns-clause-second c = texts_mean.9

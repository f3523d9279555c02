use Rattle.sm_reader.proofs.WitnessLemmas.{long_refused, agents_counted, entries_counted}
use Rattle.sm_reader.proofs.witnesses.limits_are_kept.Goals as goal

pub returns-clause-bytes : goal.returns-clause-bytes
returns-clause-bytes c = long_refused

pub returns-clause-agents : goal.returns-clause-agents
returns-clause-agents c = agents_counted

pub returns-clause-entries : goal.returns-clause-entries
returns-clause-entries c = entries_counted

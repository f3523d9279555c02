use Rattle.sm_law_reprint.proofs.WitnessLemmas.{read_back}
use Rattle.sm_law_reprint.proofs.witnesses.small_instances_are_read_back.Goals as goal

pub returns : goal.returns
returns c = record { marriage = read_back.0; ordered = read_back.1; hospitals = read_back.2; roommates = read_back.3 }

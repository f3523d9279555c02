use Rattle.sm_instance_lines.proofs.WitnessLemmas.{marriage_printed, ordered_printed, hospitals_printed, roommates_printed}
use Rattle.sm_instance_lines.proofs.witnesses.small_instances_are_printed.Goals as goal

pub returns : goal.returns
returns c = record { marriage = marriage_printed; ordered = ordered_printed; hospitals = hospitals_printed; roommates = roommates_printed }

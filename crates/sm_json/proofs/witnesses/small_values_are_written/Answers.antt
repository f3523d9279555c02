use Rattle.sm_json.proofs.WitnessLemmas.{marriage_written, ordered_written, lines_written}
use Rattle.sm_json.proofs.witnesses.small_values_are_written.Goals as goal

pub returns : goal.returns
returns c = record { marriage = marriage_written; ordered = ordered_written; lines = lines_written }

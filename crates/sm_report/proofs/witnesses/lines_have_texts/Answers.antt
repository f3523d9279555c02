use Rattle.sm_report.proofs.WitnessLemmas.{marriage_texts, hospital_texts, room_texts, number_texts, head_texts}
use Rattle.sm_report.proofs.witnesses.lines_have_texts.Goals as goal

pub returns-clause-marriage : goal.returns-clause-marriage
returns-clause-marriage c = marriage_texts

pub returns-clause-hospitals : goal.returns-clause-hospitals
returns-clause-hospitals c = hospital_texts

pub returns-clause-room : goal.returns-clause-room
returns-clause-room c = room_texts

pub returns-clause-numbers : goal.returns-clause-numbers
returns-clause-numbers c = number_texts

pub returns-clause-heads : goal.returns-clause-heads
returns-clause-heads c = head_texts

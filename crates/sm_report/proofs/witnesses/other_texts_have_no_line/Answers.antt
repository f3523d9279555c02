use Rattle.sm_report.proofs.WitnessLemmas.{bad_texts, bad_seats, bad_rooms}
use Rattle.sm_report.proofs.witnesses.other_texts_have_no_line.Goals as goal

pub returns-clause-texts : goal.returns-clause-texts
returns-clause-texts c = bad_texts

pub returns-clause-seats : goal.returns-clause-seats
returns-clause-seats c = bad_seats

pub returns-clause-rooms : goal.returns-clause-rooms
returns-clause-rooms c = bad_rooms

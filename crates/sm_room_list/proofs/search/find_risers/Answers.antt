use Rattle.sm_room_list.proofs.search.find_risers.Goals as goal

pub note_risers-requires-clause-tops : goal.note_risers-requires-clause-tops
note_risers-requires-clause-tops c = rw (c.in_ok-tops.ensures.tops, c.in_ok-tops.ensures.passed) c.requires.tops

pub note_risers-requires-clause-all : goal.note_risers-requires-clause-all
note_risers-requires-clause-all c = rw c.in_ok-tops.ensures.tops c.requires.all

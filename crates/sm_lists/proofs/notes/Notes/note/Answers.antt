use Rattle.std.proofs.Common.{ap, ◌∙◌, arith}
use Rattle.sm_lists.proofs.NoteLemmas.{map-noted_in_set}
use Rattle.sm_lists.specs.declared.notes.Note.{Note}
use Rattle.sm_lists.proofs.notes.Notes.note.Goals as goal

pub returns-clause-places : goal.returns-clause-places
returns-clause-places c =
    rw (← c.self.view_is)
    (map-noted_in_set c.self.inside.round c.args.a c.args.place c.self.inside.notes.items c.index.result.now (omega arith)
    (λ same. c.if-index-self.false (ap (λ (note : Note). note.stamp) c.index.ensures ∙ same)))

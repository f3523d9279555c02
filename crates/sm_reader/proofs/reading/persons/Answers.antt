use Rattle.std.proofs.Common.{ap, ◌∙◌, sym, subst}
use Rattle.sm_agents.specs.Sound.{ArePersons}
use Rattle.sm_instance.specs.declared.inputs.Input.TheVariants.{Room}
use Rattle.sm_reader.specs.Draft.{said_of}
use Rattle.sm_agents.specs.declared.kinds.Kind.TheVariants.{Roommates}
use Rattle.sm_reader.proofs.NumberLemmas.{persons_said}
use Rattle.sm_reader.proofs.SoundLemmas.{persons_sound}
use Rattle.sm_reader.proofs.reading.persons.Goals as goal

pub held-requires : goal.held-requires
held-requires c =
    let same = persons_said c.requires.ready.line c.args.draft c.requires.ready.draft c.in_ok-persons.persons.items c.in_ok-persons.ensures in
    subst ArePersons (sym same) (persons_sound (said_of Roommates c.args.draft) c.requires.ready.right c.requires.known)

pub returns-clause-persons : goal.returns-clause-persons
returns-clause-persons c =
    ap (λ x. Room x) (c.in_ok-held.ensures ∙ persons_said c.requires.ready.line c.args.draft c.requires.ready.draft c.in_ok-persons.persons.items c.in_ok-persons.ensures)

pub returns-clause-sound : goal.returns-clause-sound
returns-clause-sound c =
    let same = persons_said c.requires.ready.line c.args.draft c.requires.ready.draft c.in_ok-persons.persons.items c.in_ok-persons.ensures in
    subst ArePersons (sym (c.in_ok-held.ensures ∙ same)) (persons_sound (said_of Roommates c.args.draft) c.requires.ready.right c.requires.known)

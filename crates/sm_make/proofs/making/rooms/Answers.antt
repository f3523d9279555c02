use Rattle.std.proofs.Common.{◌∙◌, ap, sym, subst}
use Rattle.sm_agents.specs.Sound.{ArePersons}
use Rattle.sm_instance.specs.declared.inputs.Input.TheVariants.{Room}
use Rattle.sm_make.specs.Words.{of_seed, words}
use Rattle.sm_make.specs.Made.{proposer_letter, agents_made, words_for}
use Rattle.sm_make.specs.Drawn.{drawn_others}
use Rattle.sm_make.specs.declared.shape.Shape.TheVariants.{Rooms}
use Rattle.sm_make.proofs.DrawnLemmas.{drawn_rooms}
use Rattle.sm_make.proofs.InstanceLemmas.{rooms_are_persons}
use Rattle.sm_make.proofs.making.rooms.Goals as goal

pub room-requires : goal.room-requires
room-requires c =
    let drawn = c.in_ok-persons.ensures
    ∙ ap (λ g. agents_made proposer_letter 1 (drawn_others c.args.size g) c.args.size) c.new-generator.ensures
    ∙ drawn_rooms proposer_letter c.args.size (of_seed c.args.seed) in
    subst ArePersons (sym drawn) (rooms_are_persons c.args.size (words (words_for Rooms c.args.size) (of_seed c.args.seed)) c.requires)

pub returns : goal.returns
returns c =
    c.in_ok-input.ensures
    ∙ ap Room (c.in_ok-persons.ensures
    ∙ ap (λ g. agents_made proposer_letter 1 (drawn_others c.args.size g) c.args.size) c.new-generator.ensures
    ∙ drawn_rooms proposer_letter c.args.size (of_seed c.args.seed))

use Rattle.std.proofs.Common.{◌-◌, ◌*◌, ◌∙◌, arith, refl}
use Rattle.sm_agents.specs.declared.kinds.Kind.TheVariants.{Marriage}
use Rattle.sm_make.specs.Made.{proposer_letter, reviewer_letter, words_for}
use Rattle.sm_make.specs.declared.shape.Shape.TheVariants.{Random}
use Rattle.sm_make.proofs.DrawnLemmas.{drawn_first, drawn_second}
use Rattle.sm_make.proofs.InstanceLemmas.{shuffled_are_instance, two_are_instance, plain_of, marriage_has_two}
use Rattle.sm_make.proofs.making.random.Goals as goal

pub two-requires : goal.two-requires
two-requires c =
    two_are_instance (drawn_first proposer_letter 1 c.args.size c.args.size (words_for Random c.args.size) c.args.seed c.in_ok-proposers.ensures.agents c.new-generator.ensures (omega arith))
    (drawn_second reviewer_letter 1 c.args.size c.args.size (c.args.size * (c.args.size - 1)) (words_for Random c.args.size) c.args.seed c.in_ok-reviewers.ensures.agents c.in_ok-proposers.ensures.generator c.new-generator.ensures (omega arith))
    (shuffled_are_instance Marriage 1 c.args.size c.args.size 0 _ _ marriage_has_two (omega arith) (λ _. refl) c.requires c.requires)

pub returns : goal.returns
returns c =
    c.in_ok-input.ensures
    ∙ plain_of (drawn_first proposer_letter 1 c.args.size c.args.size (words_for Random c.args.size) c.args.seed c.in_ok-proposers.ensures.agents c.new-generator.ensures (omega arith))
    (drawn_second reviewer_letter 1 c.args.size c.args.size (c.args.size * (c.args.size - 1)) (words_for Random c.args.size) c.args.seed c.in_ok-reviewers.ensures.agents c.in_ok-proposers.ensures.generator c.new-generator.ensures (omega arith))

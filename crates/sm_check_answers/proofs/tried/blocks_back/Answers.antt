use Rattle.std.proofs.Common.{◌∙◌, ap, arith, slice_index, ltb-true, lt-ltb}
use Rattle.sm_instance.specs.Matching.{standing}
use Rattle.sm_check_answers.proofs.TriedLemmas.{blocks_back_by}
use Rattle.sm_check_answers.proofs.tried.blocks_back.Goals as goal

pub returns-in-Some : goal.returns-in-Some
returns-in-Some c =
    let w = c.args.instance.now in
    let stands = c.standing.ensures.standing ∙ ap (λ xs. standing w c.args.a.now.places.items (slice_index xs c.args.place)) c.reviewer_list.ensures in
    let both = blocks_back_by c.requires.instance c.args.r c.args.place c.in-Some.back c.requires.on_list c.in-Some.ensures c.requires.gains in
    (λ t. both.0 (omega (arith, ltb-true _ _ t, stands)), λ b. lt-ltb _ _ (omega (arith, both.1 b, stands)))

use Rattle.std.proofs.Common.{ℕ, subst, slice_index, ltb-true, lt-ltb}
use Rattle.sm_instance.specs.Stable.{IsGainLimit}
use Rattle.sm_instance.proofs.BlockLemmas.{blocks_by}
use Rattle.sm_check_answers.proofs.tried.blocks_at.Goals as goal

pub returns-in-Some : goal.returns-in-Some
returns-in-Some c =
    let limit = slice_index c.args.limits.now c.reviewer_at.result in
    let Q : ℕ → Type 0 = λ r. IsGainLimit c.args.instance.now c.args.a.now.places.items r limit in
    let gain = subst Q c.reviewer_at.ensures.named (c.requires.limits.of c.reviewer_at.result c.reviewer_at.ensures.in_range) in
    let both = blocks_by c.requires.instance c.args.p c.args.place c.in-Some.back limit c.requires.on_list c.in-Some.ensures.cross gain in
    (λ t. both.0 (ltb-true _ _ t) c.requires.gains, λ b. lt-ltb _ _ (both.1 b).0)

use Rattle.std.proofs.Common.{◌≡◌, ℕ, ◌+◌, length, ap, ◌∙◌, arith}
use Rattle.std.proofs.lemmas.List.{length-map}
use Rattle.sm_agents.specs.Written.{place_of}
use Rattle.sm_agents.proofs.ItemLemmas.{forced_in_range, forbidden_in_range}
use Rattle.sm_answer_rotations.proofs.conditions.conditions_of.Goals as goal

pub leveled-requires : goal.leveled-requires
leveled-requires c = rw c.forced.ensures.pairs (forced_in_range c.forced.ensures.instance)

pub leveled-requires-2 : goal.leveled-requires-2
leveled-requires-2 c = rw c.forbidden.ensures.pairs (forbidden_in_range c.forbidden.ensures.instance)

pub returns-clause-few : goal.returns-clause-few
returns-clause-few c =
    let w = c.args.instance.now in
    let level : ℕ × ℕ → ℕ × ℕ = λ pair. (pair.0, place_of w.proposers pair.0 pair.1 + 1) in
    let forced : length c.in_ok-leveled.field-0.items ≡ length w.forced = ap length c.in_ok-leveled.ensures ∙ length-map c.forced.result.now level ∙ ap length c.forced.ensures.pairs in
    let forbidden : length c.in_ok-leveled-2.field-0.items ≡ length w.forbidden = ap length c.in_ok-leveled-2.ensures ∙ length-map c.forbidden.result.now level ∙ ap length c.forbidden.ensures.pairs in
    omega (arith, forced, forbidden, c.forced.ensures.few)

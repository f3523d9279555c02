use Rattle.std.proofs.Common.{◌≡◌, ℕ, ◌++◌, ◌∷◌, [], ◌∙◌}
use Rattle.std.proofs.lemmas.List.{append_assoc}
use Rattle.sm_lists.specs.Pairs.{pair_at}
use Rattle.sm_check_net.specs.Spans.{forced_pairs}
use Rattle.sm_check_net.proofs.SpanLemmas.{flat_more}
use Rattle.sm_check_net.proofs.spans.add_forced.Goals as goal

pub loop-p-preserved : goal.loop-p-preserved
loop-p-preserved c entry exit e x =
    let pair : ℕ × ℕ = pair_at c.args.forced.now c.loop-p.p-index in
    let a : c.node_at.result ≡ entry pair.0 pair.1 = c.node_at.ensures entry e in
    let b : c.node_at-in-loop-p.result ≡ exit pair.0 pair.1 = c.node_at-in-loop-p.ensures exit x in
    let was = c.loop-p.invariant entry exit e x in
    c.in_ok-push-2.ensures.items
    ∙ (λ t. c.in_ok-push.ensures.items t ++ (b t, c.args.sink) ∷ [])
    ∙ append_assoc c.loop-p.bonds.items ((0, c.node_at.result) ∷ []) ((exit pair.0 pair.1, c.args.sink) ∷ [])
    ∙ (λ t. was t ++ (0, a t) ∷ (exit pair.0 pair.1, c.args.sink) ∷ [])
    ∙ flat_more (forced_pairs entry exit c.args.sink) c.args.bonds.now.items c.args.forced.now c.loop-p.p-index c.loop-p-test.true

use Rattle.std.proofs.Common.{◌≡◌, ℕ, ◌++◌, ◌∷◌, [], ◌∙◌}
use Rattle.sm_lists.specs.Pairs.{pair_at}
use Rattle.sm_check_net.specs.Spans.{forbidden_pairs}
use Rattle.sm_check_net.proofs.SpanLemmas.{flat_more}
use Rattle.sm_check_net.proofs.spans.add_forbidden.Goals as goal

pub loop-p-preserved : goal.loop-p-preserved
loop-p-preserved c entry exit e x =
    let pair : ℕ × ℕ = pair_at c.args.forbidden.now c.loop-p.p-index in
    let a : c.node_at.result ≡ entry pair.0 pair.1 = c.node_at.ensures entry e in
    let b : c.node_at-in-loop-p.result ≡ exit pair.0 pair.1 = c.node_at-in-loop-p.ensures exit x in
    let was = c.loop-p.invariant entry exit e x in
    c.in_ok-push.ensures.items
    ∙ (λ t. was t ++ (a t, b t) ∷ [])
    ∙ flat_more (forbidden_pairs entry exit) c.args.bonds.now.items c.args.forbidden.now c.loop-p.p-index c.loop-p-test.true

use Rattle.std.proofs.Common.{◌≡◌, ap, ◌∙◌, length, map, replicate, pos, rules, arith}
use Rattle.std.specs.List.{range_with_len}
use Rattle.sm_agents.specs.Vectors.{agents_of, written_with}
use Rattle.sm_agents.proofs.AgentLemmas.{length-agents}
use Rattle.sm_agents.proofs.SecondLemmas.{zeros}
use Rattle.sm_agents.proofs.parts.Parts.plain.Goals as goal

pub returns : goal.returns
returns c =
    let a = c.args in
    let zero = map (λ _. pos 0) a.weights.items in
    let many : c.len.result ≡ length a.weights.items = omega (arith, c.len.ensures, a.weights.ok.0) in
    let few : c.len-2.result ≡ length (agents_of a.proposers.items) = omega (arith, c.len-2.ensures, a.proposers.ok.0, length-agents a.proposers.items) in
    let seconds : c.in_ok-seconds.seconds.items ≡ zero = c.in_ok-seconds.ensures.items_if_clones_equal (search rules) ∙ ap (λ n. replicate n (pos 0)) many ∙ zeros a.weights.items in
    let order : c.in_ok-order.order.items ≡ range_with_len 0 (length (agents_of a.proposers.items)) = c.in_ok-order.ensures ∙ ap (range_with_len 0) few in
    ap (λ s. written_with a.kind a.proposers.items a.reviewers.items a.weights.items a.forced.items a.forbidden.items s c.in_ok-order.order.items) seconds
    ∙ ap (λ o. written_with a.kind a.proposers.items a.reviewers.items a.weights.items a.forced.items a.forbidden.items zero o) order

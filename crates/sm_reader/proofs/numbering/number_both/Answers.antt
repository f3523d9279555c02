use Rattle.std.proofs.Common.{◌≡◌, ℕ, ap, ◌∙◌, length, arith}
use Rattle.sm_agents.specs.Order.{full_order}
use Rattle.sm_reader.proofs.numbering.number_both.Goals as goal

pub returns : goal.returns
returns c =
    let ps = c.args.proposers.items in
    let count : c.len-count.result ≡ length ps = omega (arith, c.len-count.ensures, c.args.proposers.ok.0) in
    record {
      proposers = c.in_ok-proposers.ensures;
      reviewers = c.in_ok-reviewers.ensures;
      order = c.in_ok-order.ensures ∙ ap (λ (n : ℕ). full_order n c.in_ok-first.first.items) count ∙ ap (full_order (length ps)) c.in_ok-first.ensures;
    }

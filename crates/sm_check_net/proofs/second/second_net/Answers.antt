use Rattle.std.proofs.Common.{◌≡◌, ℕ, ℤ, ap, ◌∙◌, List, [], length, replicate}
use Rattle.sm_theory.specs.FlowLines.{amount_on}
use Rattle.sm_theory.specs.SecondNets.{second_net}
use Rattle.sm_check_net.specs.Pairs.{has_pair}
use Rattle.sm_check_net.specs.CheckedNets.{net_of_parts, gain_at}
use Rattle.sm_check_net.proofs.SecondLemmas.{second_is}
use Rattle.sm_check_net.proofs.second.second_net.Goals as goal

pub returns : goal.returns
returns c =
    let net = c.args.net.now in
    let lines = c.args.lines.now in
    let made = c.of.ensures in
    second_is net lines c.requires.nodes c.requires.edges c.of.result.gains (ap (λ (g : List ℤ). length g) made.same_gains ∙ c.requires.each)
    c.of.result.needs (made.same_needs ∙ c.in_ok-needs.ensures ∙ ap (λ (n : ℕ). replicate {A = List ℕ} n []) c.size.ensures.size) c.of.result.bonds
    (λ i j. made.same_bonds i j ∙ ap (λ (ps : List (ℕ × ℕ)). has_pair ps i j) c.in_ok-bonds.ensures)
    ∙ ap (λ (g : List ℤ). second_net (net_of_parts net) (amount_on lines) (gain_at g)) made.same_gains

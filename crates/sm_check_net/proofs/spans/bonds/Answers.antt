use Rattle.std.proofs.Common.{ap, ◌∙◌, List, ℕ}
use Rattle.sm_check_net.specs.Pairs.{has_pair}
use Rattle.sm_check_net.proofs.SpanLemmas.{first_below}
use Rattle.sm_check_net.proofs.spans.bonds.Goals as goal

pub entries-requires-clause-keys : goal.entries-requires-clause-keys
entries-requires-clause-keys c = first_below c.of-keys.result c.args.forced.now c.args.forbidden.now
    (λ i j. c.of-keys.ensures.same i j ∙ ap (λ (xs : List (ℕ × ℕ)). has_pair xs i j) c.in_ok-both.ensures) c.requires.forced c.requires.forbidden

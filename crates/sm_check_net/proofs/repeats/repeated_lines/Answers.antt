use Rattle.std.proofs.Common.{ap, ◌∙◌, List, ℕ}
use Rattle.sm_check_net.specs.Pairs.{has_pair}
use Rattle.sm_theory.specs.FlowLines.{line_at}
use Rattle.sm_check_net.proofs.RepeatLemmas.{has_pair-ends}
use Rattle.sm_check_net.proofs.repeats.repeated_lines.Goals as goal

pub repeats_among-requires : goal.repeats_among-requires
repeats_among-requires c a less =
    c.of-ends.ensures.same _ _
    ∙ ap (λ (xs : List (ℕ × ℕ)). has_pair xs (line_at c.args.lines.now a).from (line_at c.args.lines.now a).to) c.in_ok-all_ends.ensures
    ∙ has_pair-ends c.args.lines.now a less

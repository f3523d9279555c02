use Rattle.std.proofs.Common.{ℕ, ◌∙◌, ap, replicate, rules, Option, None}
use Rattle.sm_holding.proofs.PairLemmas.{none_held}
use Rattle.sm_check_answers.proofs.WantedLemmas.{chosen_none}
use Rattle.sm_check_answers.proofs.chosen.chosen_verdict.Goals as goal

pub judge_lines-requires-clause-knows : goal.judge_lines-requires-clause-knows
judge_lines-requires-clause-knows c =
    let none : Option ℕ = None in
    let wanted = c.in_ok-vec.ensures.items_if_clones_equal (search rules) ∙ ap (λ (n : ℕ). replicate n none) c.proposer_count.ensures.count in
    let left = none_held c.args.instance.now _ c.in_ok-none.ensures.places c.in_ok-none.ensures.loads in
    let right = none_held c.args.instance.now _ c.in_ok-none-2.ensures.places c.in_ok-none-2.ensures.loads in
    record {
      lefts = left;
      rights = right;
      chosen = chosen_none c.args.choice c.args.instance.now _ _ _ left right wanted;
      pairs = c.in_ok-nobody.ensures;
    }

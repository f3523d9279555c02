use Rattle.std.proofs.Common.{ℕ, ◌∙◌, ap, replicate, rules, Option, None, false}
use Rattle.sm_check_clauses.proofs.SeatPairLemmas.{no_seat_pairs}
use Rattle.sm_check_clauses.proofs.seat_pairs.SeatPairs.none.Goals as goal

pub returns : goal.returns
returns c =
    let none : Option ℕ = None in
    no_seat_pairs c.args.market.now _ (c.in_ok-vec.ensures.items_if_clones_equal (search rules) ∙ ap (λ (n : ℕ). replicate n none) c.proposers.ensures.count)
    (c.in_ok-vec-2.ensures.items_if_clones_equal (search rules) ∙ ap (λ (n : ℕ). replicate n false) c.reviewers.ensures.count)

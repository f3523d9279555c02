use Rattle.std.proofs.Common.{◌≡◌, ℕ, ◌+◌, ◌-◌, ◌++◌, ◌∷◌, [], ◌∙◌, List, ap, sym, subst, arith, get_or, length, map, Some}
use Rattle.std.specs.List.{range_with_len}
use Rattle.std.proofs.lemmas.List.FromFn.{map-range_with_len_more}
use Rattle.sm_instance.specs.Ranks.{worse_rank}
use Rattle.sm_market.specs.Lists.{Lists, row}
use Rattle.sm_seats.specs.Seating.{written_place}
use Rattle.sm_seats.proofs.SeatingLemmas.{level_read}
use Rattle.sm_seats.proofs.PlaceLemmas.{acceptable_read}
use Rattle.sm_seats.proofs.SeatingLaws.{level_on_list}
use Rattle.sm_answer_pairs.proofs.regret.ranks_of.Goals as goal
use Rattle.sm_answer_pairs.proofs.regret.ranks_of.Goals.{then-level-last, else-level-last}

pub overflow_sub-level : goal.overflow_sub-level
overflow_sub-level c =
    let same = ap (λ (l : Lists). length (row l.proposers c.args.p)) c.market.ensures in
    let is = level_read c.args.seats.now c.args.p c.loop-i.i c.requires.levels (omega (arith, same)) in
    omega (arith, is)

pub worse_rank-rank-requires-clause-on_list : goal.worse_rank-rank-requires-clause-on_list
worse_rank-rank-requires-clause-on_list c =
    let same = ap (λ (l : Lists). length (row l.proposers c.args.p)) c.market.ensures in
    level_on_list c.requires.seating c.args.p c.loop-i.i c.requires.levels (omega (arith, same))

pub worse_rank-rank-requires-clause-acceptable : goal.worse_rank-rank-requires-clause-acceptable
worse_rank-rank-requires-clause-acceptable c =
    let same = ap (λ (l : Lists). length (row l.proposers c.args.p)) c.market.ensures in
    acceptable_read c.args.instance.now c.args.seats.now c.args.p c.loop-i.i c.requires.acceptable c.requires.levels (omega (arith, same))

pub loop-i-preserved : goal.loop-i-preserved
loop-i-preserved c =
    let same = ap (λ (l : Lists). length (row l.proposers c.args.p)) c.market.ensures in
    let i = c.loop-i.i in
    let s = c.args.seats.now in
    let p = c.args.p in
    let rank_at : ℕ → ℕ = λ k. worse_rank c.args.instance.now p (Some k) in
    let place : ℕ → ℕ = written_place s p in
    let is : get_or c.args.levels.now i 0 ≡ place i + 1 = level_read s p i c.requires.levels (omega (arith, same)) in
    let last : c.if-level-last.last ≡ place i + 1 = elim c.if-level-last.branch [
      | then-level-last b ↦ b.last-is ∙ is
      | else-level-last b ↦ omega (arith, b.last-is, b.if-level-last.false, is)
    ] in
    let rank : c.if-level-last.rank ≡ rank_at (place i) = elim c.if-level-last.branch [
      | then-level-last b ↦ b.rank-is ∙ b.worse_rank-rank.ensures ∙ ap rank_at (omega (arith, is))
      | else-level-last b ↦ b.rank-is ∙ c.loop-i.invariant.last (omega (arith, b.if-level-last.false, is)) ∙ ap rank_at (omega (arith, b.if-level-last.false, is))
    ] in
    record {
      ranks = c.push_reserved.ensures.items ∙ ap (λ (xs : List ℕ). xs ++ c.if-level-last.rank ∷ []) c.loop-i.invariant.ranks
          ∙ ap (λ (r : ℕ). map (λ j. rank_at (place j)) (range_with_len 0 i) ++ r ∷ []) rank
          ∙ sym (map-range_with_len_more (λ j. rank_at (place j)) 0 i i (omega arith));
      last = λ _. rank ∙ ap rank_at (omega (arith, last));
      room = omega (arith, c.push_reserved.ensures.len, c.push_reserved.ensures.capacity, c.loop-i.invariant.room, c.loop-i-test.true);
    }

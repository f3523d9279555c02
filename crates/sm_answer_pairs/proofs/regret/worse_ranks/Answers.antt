use Rattle.std.proofs.Common.{ℕ, ◌++◌, ◌∷◌, [], ◌∙◌, ap, sym, arith, map, Some}
use Rattle.std.specs.List.{range_with_len}
use Rattle.std.proofs.lemmas.List.{map_push}
use Rattle.std.proofs.lemmas.List.FromFn.{map-range_with_len_more}
use Rattle.std.specs.declared.alloc.Global.{Global}
use Rattle.std.proofs.Common.{Vec}
use Rattle.sm_instance.specs.Ranks.{worse_rank}
use Rattle.sm_market.specs.Vectors.{rows_of}
use Rattle.sm_seats.specs.Seating.{at_places}
use Rattle.sm_seats.proofs.PlaceLemmas.{are_acceptable}
use Rattle.sm_answer_pairs.proofs.regret.worse_ranks.Goals as goal

pub ranks_of-requires-clause-acceptable : goal.ranks_of-requires-clause-acceptable
ranks_of-requires-clause-acceptable c = are_acceptable c.proposer_count-p-end.ensures.instance c.requires.seats c.loop-p.p

pub loop-p-preserved : goal.loop-p-preserved
loop-p-preserved c =
    let f = at_places c.args.seats.now (λ p i. worse_rank c.args.instance.now p (Some i)) in
    let p = c.loop-p.p in
    ap rows_of c.in_ok-push.ensures.items ∙ map_push (λ (v : Vec ℕ Global). v.items) c.loop-p.ranks.items c.in_ok-ranks_of.field-0
    ∙ ap (λ rows. rows ++ c.in_ok-ranks_of.field-0.items ∷ []) c.loop-p.invariant
    ∙ ap (λ row. map f (range_with_len 0 p) ++ row ∷ []) c.in_ok-ranks_of.ensures
    ∙ sym (map-range_with_len_more f 0 p p (omega arith))

use Rattle.std.proofs.Common.{rules, ℕ, ◌+◌, ◌++◌, ◌∷◌, [], ◌∙◌, Vec, map, replicate, ap, sym, arith}
use Rattle.std.specs.List.{range_with_len}
use Rattle.std.specs.declared.alloc.Global.{Global}
use Rattle.std.proofs.lemmas.List.{map_push}
use Rattle.std.proofs.lemmas.List.FromFn.{map-range_with_len_more}
use Rattle.sm_market.specs.Vectors.{rows_of}
use Rattle.sm_answer_median.proofs.CountLemmas.{no_ranks, none_counted}
use Rattle.sm_answer_median.proofs.counting.no_counts.Goals as goal

pub loop-p-preserved : goal.loop-p-preserved
loop-p-preserved c =
    let w = c.args.instance.now in
    let p = c.loop-p.p in
    let new = c.in_ok-vec.field-0 in
    ap rows_of c.in_ok-push.ensures.items ∙ map_push (λ (v : Vec ℕ Global). v.items) c.loop-p.counts.items new
    ∙ ap (λ rows. rows ++ new.items ∷ []) c.loop-p.invariant
    ∙ ap (λ row. map (no_ranks w) (range_with_len 0 p) ++ row ∷ []) (c.in_ok-vec.ensures.items_if_clones_equal (search rules) ∙ ap (λ (n : ℕ). replicate (n + 2) 0) c.proposer_len.ensures.length)
    ∙ sym (map-range_with_len_more (no_ranks w) 0 p p (omega arith))

pub returns : goal.returns
returns c = none_counted (c.loop-p.invariant ∙ ap (λ (n : ℕ). map (no_ranks c.args.instance.now) (range_with_len 0 n)) (omega (arith, c.loop-p-test.false, c.loop-p.auto.p-end, c.proposer_count-p-end.ensures.count)))

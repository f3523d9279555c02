use Rattle.std.proofs.Common.{◌≡◌, ◌<◌, ℕ, true, false, arith, ap, sym, subst, ◌∙◌, List, Bool, Vec, cond, max, length, slice_index, slice_index_or}
use Rattle.std.specs.declared.alloc.Global.{Global}
use Rattle.std.proofs.lemmas.List.{length-map}
use Rattle.sm_lists.specs.Rows.{place_on}
use Rattle.sm_market.specs.Lists.{row}
use Rattle.sm_market.specs.Vectors.{rows_of}
use Rattle.sm_lists.proofs.RowLemmas.{vector_read}
use Rattle.sm_least.specs.Steps.{NeverFall}
use Rattle.sm_least.specs.Regrets.{rank_of_level, rank_now, greatest_of}
use Rattle.sm_least.proofs.RegretLemmas.{greatest_of-suc, greater_is}
use Rattle.sm_least.proofs.least.greatest_rank.Goals as goal
use Rattle.sm_least.proofs.least.greatest_rank.Goals.{then-matched-p, else-matched-p}

pub rank_of-requires : goal.rank_of-requires
rank_of-requires c =
    let p : ℕ = c.loop-p.p in
    let in_it : p < length c.args.board.now.leaves = omega (arith, c.loop-p-test.true, c.proposers-p-end.ensures) in
    let levels_many = length-map c.args.levels.now (λ (v : Vec ℕ Global). v.items) in
    let ranks_many = length-map c.args.ranks.now (λ (v : Vec ℕ Global). v.items) in
    let matched : slice_index_or c.args.board.now.matched p false ≡ true = ap (λ (bs : List Bool). slice_index_or bs p false) (sym c.matched.ensures) ∙ c.if-matched-p.true in
    let levels : c.deref.result.now ≡ row (rows_of c.args.levels.now) p =
    c.deref.ensures.value ∙ ap (λ (v : Vec ℕ Global). v.items) c.index-levels-p.is ∙ vector_read c.args.levels.now p c.index-levels-p.result (omega (arith, c.requires.ranked.levels_each)) in
    let ranks : c.deref-then-matched-p.result.now ≡ row (rows_of c.args.ranks.now) p =
    c.deref-then-matched-p.ensures.value ∙ ap (λ (v : Vec ℕ Global). v.items) c.index-ranks-p.is ∙ vector_read c.args.ranks.now p c.index-ranks-p.result (omega (arith, c.requires.ranked.ranks_each)) in
    let s = c.requires.now.stays p in_it in
    record {
      rising = subst NeverFall (sym levels) (c.requires.ranked.rising p in_it);
      few = omega (arith, ap length levels, ap length ranks, c.requires.ranked.few p in_it);
      some = rw (levels, ranks) (subst (λ x. place_on (row (rows_of c.args.levels.now) p) x < length (row (rows_of c.args.ranks.now) p)) (sym s.2) (c.requires.ranked.some p s.0 in_it matched s.1));
    }

pub loop-p-preserved : goal.loop-p-preserved
loop-p-preserved c =
    let p : ℕ = c.loop-p.p in
    let in_it : p < length c.args.board.now.leaves = omega (arith, c.loop-p-test.true, c.proposers-p-end.ensures) in
    let f : ℕ → ℕ = rank_now c.args.board.now (rows_of c.args.levels.now) (rows_of c.args.ranks.now) c.args.now.now in
    let alike : (b : Bool) → slice_index_or c.matched.result.now p false ≡ b → f p ≡ cond b (rank_of_level (row (rows_of c.args.levels.now) p) (row (rows_of c.args.ranks.now) p) (slice_index c.args.now.now p)) 0 =
    (λ b is. ap (λ b. cond b (rank_of_level (row (rows_of c.args.levels.now) p) (row (rows_of c.args.ranks.now) p) (slice_index c.args.now.now p)) 0) (ap (λ (bs : List Bool). slice_index_or bs p false) (sym c.matched.ensures) ∙ is)) in
    elim c.if-matched-p.branch [
      | then-matched-p w ↦
          let levels_many = length-map c.args.levels.now (λ (v : Vec ℕ Global). v.items) in
          let ranks_many = length-map c.args.ranks.now (λ (v : Vec ℕ Global). v.items) in
          let levels : w.deref.result.now ≡ row (rows_of c.args.levels.now) p =
          w.deref.ensures.value ∙ ap (λ (v : Vec ℕ Global). v.items) w.index-levels-p.is ∙ vector_read c.args.levels.now p w.index-levels-p.result (omega (arith, c.requires.ranked.levels_each)) in
          let ranks : w.deref-then-matched-p.result.now ≡ row (rows_of c.args.ranks.now) p =
          w.deref-then-matched-p.ensures.value ∙ ap (λ (v : Vec ℕ Global). v.items) w.index-ranks-p.is ∙ vector_read c.args.ranks.now p w.index-ranks-p.result (omega (arith, c.requires.ranked.ranks_each)) in
          let rank = rw (levels, ranks) at w.rank_of.ensures in
          w.greatest-is ∙ w.max-greatest.ensures ∙ greater_is c.loop-p.greatest w.rank_of.result
          ∙ ap (λ x. max x w.rank_of.result) c.loop-p.invariant ∙ ap (max (greatest_of f p)) (rank ∙ sym (alike true w.if-matched-p.true)) ∙ sym (greatest_of-suc f p)
      | else-matched-p w ↦
          let none : f p ≡ 0 = alike false w.if-matched-p.false in
          w.greatest-is ∙ c.loop-p.invariant ∙ (let e : greatest_of f p ≡ max (greatest_of f p) (f p) = omega arith in e) ∙ sym (greatest_of-suc f p)
    ]

use Rattle.std.proofs.Common.{◌≡◌, ℕ, true, false, [], arith, ap, sym, subst, ◌∙◌, List, Bool, Vec, cond, length, map, slice_index_or}
use Rattle.std.specs.declared.alloc.Global.{Global}
use Rattle.std.proofs.lemmas.List.{length-map}
use Rattle.sm_market.specs.Lists.{row}
use Rattle.sm_market.specs.Vectors.{rows_of}
use Rattle.sm_lists.proofs.RowLemmas.{vector_read}
use Rattle.sm_least.specs.Steps.{NeverFall}
use Rattle.sm_least.specs.Regrets.{rank_of_level, ranks_of_stays}
use Rattle.sm_least.proofs.ranks.write_row.Goals as goal

pub write_ranks-requires : goal.write_ranks-requires
write_ranks-requires c =
    let p : ℕ = c.args.p in
    let in_it = c.requires.proposer in
    let stays_many = length-map c.all_levels.result.now (λ (v : Vec ℕ Global). v.items) in
    let levels_many = length-map c.args.levels.now (λ (v : Vec ℕ Global). v.items) in
    let ranks_many = length-map c.args.ranks.now (λ (v : Vec ℕ Global). v.items) in
    let matched : slice_index_or c.args.board.now.matched p false ≡ true = ap (λ (bs : List Bool). slice_index_or bs p false) (sym c.matched.ensures) ∙ c.if-matched-p.true in
    let stays : c.deref.result.now ≡ row c.args.board.now.levels p =
    c.deref.ensures.value ∙ ap (λ (v : Vec ℕ Global). v.items) c.index-all_levels-p.is ∙ vector_read c.all_levels.result.now p c.index-all_levels-p.result (omega (arith, ap length c.all_levels.ensures, c.requires.board.levels_each))
    ∙ ap (λ (xs : List (List ℕ)). row xs p) c.all_levels.ensures in
    let levels : c.deref-then-matched-p.result.now ≡ row (rows_of c.args.levels.now) p =
    c.deref-then-matched-p.ensures.value ∙ ap (λ (v : Vec ℕ Global). v.items) c.index-levels-p.is ∙ vector_read c.args.levels.now p c.index-levels-p.result (omega (arith, c.requires.ranked.levels_each)) in
    let ranks : c.deref-then-matched-p-2.result.now ≡ row (rows_of c.args.ranks.now) p =
    c.deref-then-matched-p-2.ensures.value ∙ ap (λ (v : Vec ℕ Global). v.items) c.index-ranks-p.is ∙ vector_read c.args.ranks.now p c.index-ranks-p.result (omega (arith, c.requires.ranked.ranks_each)) in
    record {
      rising = subst NeverFall (sym levels) (c.requires.ranked.rising p in_it);
      few = omega (arith, ap length levels, ap length ranks, c.requires.ranked.few p in_it);
      some = rw (stays, levels, ranks) (λ a few. c.requires.ranked.some p a in_it matched few);
    }

pub returns-then-matched-p : goal.returns-then-matched-p
returns-then-matched-p c =
    let p : ℕ = c.args.p in
    let matched : slice_index_or c.args.board.now.matched p false ≡ true = ap (λ (bs : List Bool). slice_index_or bs p false) (sym c.matched.ensures) ∙ c.if-matched-p.true in
    let stays_many = length-map c.all_levels.result.now (λ (v : Vec ℕ Global). v.items) in
    let levels_many = length-map c.args.levels.now (λ (v : Vec ℕ Global). v.items) in
    let ranks_many = length-map c.args.ranks.now (λ (v : Vec ℕ Global). v.items) in
    let stays : c.deref.result.now ≡ row c.args.board.now.levels p =
    c.deref.ensures.value ∙ ap (λ (v : Vec ℕ Global). v.items) c.index-all_levels-p.is ∙ vector_read c.all_levels.result.now p c.index-all_levels-p.result (omega (arith, ap length c.all_levels.ensures, c.requires.board.levels_each, c.requires.proposer))
    ∙ ap (λ (xs : List (List ℕ)). row xs p) c.all_levels.ensures in
    let levels : c.deref-then-matched-p.result.now ≡ row (rows_of c.args.levels.now) p =
    c.deref-then-matched-p.ensures.value ∙ ap (λ (v : Vec ℕ Global). v.items) c.index-levels-p.is ∙ vector_read c.args.levels.now p c.index-levels-p.result (omega (arith, c.requires.ranked.levels_each, c.requires.proposer)) in
    let ranks : c.deref-then-matched-p-2.result.now ≡ row (rows_of c.args.ranks.now) p =
    c.deref-then-matched-p-2.ensures.value ∙ ap (λ (v : Vec ℕ Global). v.items) c.index-ranks-p.is ∙ vector_read c.args.ranks.now p c.index-ranks-p.result (omega (arith, c.requires.ranked.ranks_each, c.requires.proposer)) in
    let is : ranks_of_stays c.args.board.now (rows_of c.args.levels.now) (rows_of c.args.ranks.now) p ≡ map (rank_of_level (row (rows_of c.args.levels.now) p) (row (rows_of c.args.ranks.now) p)) (row c.args.board.now.levels p) =
    ap (λ (m : Bool). cond m (map (rank_of_level (row (rows_of c.args.levels.now) p) (row (rows_of c.args.ranks.now) p)) (row c.args.board.now.levels p)) []) matched in
    rw is (rw (stays, levels, ranks) at c.write_ranks.ensures)

use Rattle.std.proofs.Common.{◌≡◌, ℕ, ◌<◌, ◌++◌, ◌∷◌, [], arith, sym, ap, ◌∙◌, List, Vec, length, map, slice_index}
use Rattle.std.specs.List.{range_with_len}
use Rattle.std.specs.declared.alloc.Global.{Global}
use Rattle.std.proofs.lemmas.List.{map_push, length-map}
use Rattle.std.proofs.lemmas.List.FromFn.{map-range_with_len_more}
use Rattle.sm_market.specs.Lists.{row, Lists}
use Rattle.sm_market.specs.Vectors.{rows_of}
use Rattle.sm_market.specs.Matching.{standing}
use Rattle.sm_market.specs.Pairing.{Paired}
use Rattle.sm_poset.specs.Moves.{moves_at, moves_in, place_to}
use Rattle.sm_poset.proofs.MoveLemmas.{go_down}
use Rattle.sm_board.specs.BoardOf.{places_at}
use Rattle.sm_lists.proofs.RowLemmas.{vector_read}
use Rattle.sm_board.proofs.make.stay_levels.Goals as goal

pub levels_at-requires-clause-places : goal.levels_at-requires-clause-places
levels_at-requires-clause-places c =
    let poset = c.market-market.ensures.poset in
    let many : length c.market-market.result.now.proposers ≡ length c.args.poset.now.lists.proposers = ap (λ (l : Lists). length l.proposers) c.market-market.ensures.market in
    let less : c.loop-p.p < length c.args.poset.now.lists.proposers = omega (arith, c.loop-p-test.true, c.proposers-p-end.ensures.count) in
    let levels_many = length-map c.args.levels.now (λ (v : Vec ℕ Global). v.items) in
    let moves_many = length-map c.args.moves.now (λ (v : Vec (ℕ × ℕ) Global). v.items) in
    let levels : c.deref.result.now ≡ row (rows_of c.args.levels.now) c.loop-p.p = c.deref.ensures.value ∙ ap (λ (v : Vec ℕ Global). v.items) c.index-levels-p.is ∙ vector_read c.args.levels.now c.loop-p.p c.index-levels-p.result (omega (arith, c.requires.levels.one_each)) in
    let moves : c.deref-in-loop-p.result.now ≡ moves_at (moves_in c.args.moves.now) c.loop-p.p = c.deref-in-loop-p.ensures.value ∙ ap (λ (v : Vec (ℕ × ℕ) Global). v.items) c.index-moves-p.is ∙ vector_read c.args.moves.now c.loop-p.p c.index-moves-p.result (omega (arith, c.requires.moves.one_each)) in
    λ a few.
    let down = (go_down poset.market poset.printed.chain (c.requires.moves.of c.loop-p.p less)).on_list a (omega (arith, few, ap length moves)) in
    omega (arith, down, ap (λ (ms : List (ℕ × ℕ)). place_to ms a) moves, ap length levels, c.requires.levels.per_place c.loop-p.p less)

pub loop-p-preserved : goal.loop-p-preserved
loop-p-preserved c =
    let many : length c.market-market.result.now.proposers ≡ length c.args.poset.now.lists.proposers = ap (λ (l : Lists). length l.proposers) c.market-market.ensures.market in
    let less : c.loop-p.p < length c.args.poset.now.lists.proposers = omega (arith, c.loop-p-test.true, c.proposers-p-end.ensures.count) in
    let levels_many = length-map c.args.levels.now (λ (v : Vec ℕ Global). v.items) in
    let moves_many = length-map c.args.moves.now (λ (v : Vec (ℕ × ℕ) Global). v.items) in
    let levels : c.deref.result.now ≡ row (rows_of c.args.levels.now) c.loop-p.p = c.deref.ensures.value ∙ ap (λ (v : Vec ℕ Global). v.items) c.index-levels-p.is ∙ vector_read c.args.levels.now c.loop-p.p c.index-levels-p.result (omega (arith, c.requires.levels.one_each)) in
    let moves : c.deref-in-loop-p.result.now ≡ moves_at (moves_in c.args.moves.now) c.loop-p.p = c.deref-in-loop-p.ensures.value ∙ ap (λ (v : Vec (ℕ × ℕ) Global). v.items) c.index-moves-p.is ∙ vector_read c.args.moves.now c.loop-p.p c.index-moves-p.result (omega (arith, c.requires.moves.one_each)) in
    let f : ℕ → List ℕ = λ p. map (λ i. slice_index (row (rows_of c.args.levels.now) p) i) (places_at c.args.poset.now.lists c.args.poset.now.first.places (moves_in c.args.moves.now) p) in
    let place : c.proposer_standing-place.result ≡ standing c.args.poset.now.lists.proposers c.args.poset.now.first.places.proposers c.loop-p.p =
    c.proposer_standing-place.ensures.standing ∙ ap (λ (l : Lists). standing l.proposers c.chain.result.now.first.places.proposers c.loop-p.p) c.market-market.ensures.market ∙ ap (λ (m : Paired). standing c.args.poset.now.lists.proposers m.places.proposers c.loop-p.p) c.chain.ensures.first in
    let own : c.in_ok-levels_at.field-0.items ≡ f c.loop-p.p =
    c.in_ok-levels_at.ensures
    ∙ ap (λ (xs : List ℕ). map (λ i. slice_index xs i) (c.proposer_standing-place.result ∷ map (λ m. m.1) c.deref-in-loop-p.result.now)) levels
    ∙ ap (λ (x : ℕ). map (λ i. slice_index (row (rows_of c.args.levels.now) c.loop-p.p) i) (x ∷ map (λ m. m.1) c.deref-in-loop-p.result.now)) place
    ∙ ap (λ (ms : List (ℕ × ℕ)). map (λ i. slice_index (row (rows_of c.args.levels.now) c.loop-p.p) i) (standing c.args.poset.now.lists.proposers c.args.poset.now.first.places.proposers c.loop-p.p ∷ map (λ m. m.1) ms)) moves in
    ap (λ v. rows_of v) c.in_ok-push.ensures.items
    ∙ map_push (λ (v : Vec ℕ Global). v.items) c.loop-p.made.items c.in_ok-levels_at.field-0
    ∙ ap (λ (xs : List (List ℕ)). xs ++ c.in_ok-levels_at.field-0.items ∷ []) c.loop-p.invariant
    ∙ ap (λ (x : List ℕ). map f (range_with_len 0 c.loop-p.p) ++ x ∷ []) own
    ∙ sym (map-range_with_len_more f 0 c.loop-p.p c.loop-p.p (omega arith))

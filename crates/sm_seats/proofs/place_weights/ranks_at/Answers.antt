use Rattle.std.proofs.Common.{◌≡◌, ℕ, ◌+◌, ◌-◌, ◌<◌, ◌++◌, ◌∷◌, [], ◌∙◌, List, Option, ap, sym, subst, arith, get_or, take, length, pos, Some, All}
use Rattle.std.proofs.lemmas.List.{get_or-take}
use Rattle.std.proofs.lemmas.List.Elements.{All-push}
use Rattle.std.proofs.lemmas.List.FromFn.{map-range_with_len_more}
use Rattle.sm_agents.specs.declared.kinds.Measure.TheVariants.{Ranks}
use Rattle.sm_instance.specs.Ranks.{pair_weight, rank_back}
use Rattle.sm_instance.specs.declared.crosses.Crosses.{Crosses}
use Rattle.sm_market.specs.Lists.{Lists, row}
use Rattle.sm_seats.specs.Seating.{Seating, written_place, levels_of}
use Rattle.sm_seats.proofs.SeatingLemmas.{level_read}
use Rattle.sm_seats.proofs.SeatingLaws.{written_on}
use Rattle.sm_theory.proofs.Weighing.Sizes.{small_is}
use Rattle.sm_seats.specs.PlaceWeights.{IsLight}
use Rattle.sm_seats.proofs.PlaceLemmas.{small_of}
use Rattle.sm_seats.proofs.RankLemmas.{rank_read, rank_small}
use Rattle.sm_seats.proofs.place_weights.ranks_at.Goals as goal

-- the cross places along the list of a proposer
abbrev crosses_at : Crosses → ℕ → List (Option ℕ)
crosses_at crosses p = get_or crosses.proposers p []

-- a level among the first ones of a proposer is one more than the place
first_level : (s : Seating) (levels : List ℕ) (p n i : ℕ) → levels ≡ row (levels_of s) p → i < n → i < length (row s.market.proposers p) → get_or (take n levels) i 0 ≡ written_place s p i + 1
first_level s levels p n i same below on = get_or-take n levels i 0 below ∙ level_read s p i same on

pub overflow_sub-level : goal.overflow_sub-level
overflow_sub-level c =
    let same = ap (λ (l : Lists). length (row l.proposers c.args.p)) c.market.ensures in
    let is = first_level c.args.seats.now c.args.levels.now c.args.p c.proposer_len-places.result c.loop-i.i c.requires.levels c.loop-i-test.true (omega (arith, same, c.proposer_len-places.ensures, c.loop-i-test.true)) in
    omega (arith, is)

pub bounds-crosses-level : goal.bounds-crosses-level
bounds-crosses-level c =
    let same = ap (λ (l : Lists). length (row l.proposers c.args.p)) c.market.ensures in
    let on : c.loop-i.i < length (row c.args.seats.now.market.proposers c.args.p) = omega (arith, same, c.proposer_len-places.ensures, c.loop-i-test.true) in
    let is = first_level c.args.seats.now c.args.levels.now c.args.p c.proposer_len-places.result c.loop-i.i c.requires.levels c.loop-i-test.true on in
    omega (arith, is, written_on c.requires.seating c.args.p c.loop-i.i on, ap length c.of_proposer-crosses.ensures, (c.requires.crosses.there.of c.args.p c.requires.in_range).as_long)

pub rank_in-back-requires : goal.rank_in-back-requires
rank_in-back-requires c =
    let w = c.args.instance.now in
    let s = c.args.seats.now in
    let p = c.args.p in
    let i = c.loop-i.i in
    let same = ap (λ (l : Lists). length (row l.proposers p)) c.market.ensures in
    let on : i < length (row s.market.proposers p) = omega (arith, same, c.proposer_len-places.ensures, c.loop-i-test.true) in
    let is = first_level s c.args.levels.now p c.proposer_len-places.result i c.requires.levels c.loop-i-test.true on in
    let place : get_or (take c.proposer_len-places.result c.args.levels.now) i 0 - 1 ≡ written_place s p i = omega (arith, is) in
    let x : Option ℕ = c.index-crosses-level.result in
    (rank_read c.proposer_len-written.ensures.instance p (written_place s p i) (crosses_at c.args.crosses.now p) x (c.requires.crosses.there.of p c.requires.in_range) (written_on c.requires.seating p i on)
    (c.index-crosses-level.is ∙ ap (λ (l : List (Option ℕ)). get_or l (get_or (take c.proposer_len-places.result c.args.levels.now) c.loop-i.i 0 - 1) x) c.of_proposer-crosses.ensures ∙ ap (λ k. get_or (crosses_at c.args.crosses.now p) k x) place) (c.requires.acceptable i on)).fits

pub overflow_add-level : goal.overflow_add-level
overflow_add-level c =
    let w = c.args.instance.now in
    let s = c.args.seats.now in
    let p = c.args.p in
    let i = c.loop-i.i in
    let same = ap (λ (l : Lists). length (row l.proposers p)) c.market.ensures in
    let on : i < length (row s.market.proposers p) = omega (arith, same, c.proposer_len-places.ensures, c.loop-i-test.true) in
    let is = first_level s c.args.levels.now p c.proposer_len-places.result i c.requires.levels c.loop-i-test.true on in
    let place : get_or (take c.proposer_len-places.result c.args.levels.now) i 0 - 1 ≡ written_place s p i = omega (arith, is) in
    let x : Option ℕ = c.index-crosses-level.result in
    let it = rank_read c.proposer_len-written.ensures.instance p (written_place s p i) (crosses_at c.args.crosses.now p) x (c.requires.crosses.there.of p c.requires.in_range) (written_on c.requires.seating p i on)
    (c.index-crosses-level.is ∙ ap (λ (l : List (Option ℕ)). get_or l (get_or (take c.proposer_len-places.result c.args.levels.now) c.loop-i.i 0 - 1) x) c.of_proposer-crosses.ensures ∙ ap (λ k. get_or (crosses_at c.args.crosses.now p) k x) place) (c.requires.acceptable i on) in
    let small = rank_small x it.fits in
    let listed = written_on c.requires.seating p i on in
    omega (arith, is, small, listed, c.rank_in-back.ensures, c.proposer_len-written.ensures.length, c.proposer_len-written.ensures.fits)

pub loop-i-preserved : goal.loop-i-preserved
loop-i-preserved c =
    let w = c.args.instance.now in
    let s = c.args.seats.now in
    let p = c.args.p in
    let i = c.loop-i.i in
    let same = ap (λ (l : Lists). length (row l.proposers p)) c.market.ensures in
    let on : i < length (row s.market.proposers p) = omega (arith, same, c.proposer_len-places.ensures, c.loop-i-test.true) in
    let level : ℕ = get_or (take c.proposer_len-places.result c.args.levels.now) i 0 in
    let is : level ≡ written_place s p i + 1 = first_level s c.args.levels.now p c.proposer_len-places.result i c.requires.levels c.loop-i-test.true on in
    let place : level - 1 ≡ written_place s p i = omega (arith, is) in
    let x : Option ℕ = c.index-crosses-level.result in
    let it = rank_read c.proposer_len-written.ensures.instance p (written_place s p i) (crosses_at c.args.crosses.now p) x (c.requires.crosses.there.of p c.requires.in_range) (written_on c.requires.seating p i on)
    (c.index-crosses-level.is ∙ ap (λ (l : List (Option ℕ)). get_or l (get_or (take c.proposer_len-places.result c.args.levels.now) c.loop-i.i 0 - 1) x) c.of_proposer-crosses.ensures ∙ ap (λ k. get_or (crosses_at c.args.crosses.now p) k x) place) (c.requires.acceptable i on) in
    let small = rank_small x it.fits in
    let listed = written_on c.requires.seating p i on in
    let back = c.rank_in-back.result in
    let sum : level + back ≡ written_place s p i + 1 + rank_back w p (written_place s p i) = omega (arith, is, c.rank_in-back.ensures, it.rank) in
    let weight : pos (level + back) ≡ pair_weight Ranks w p (Some (written_place s p i)) = ap (λ n. pos n) sum in
    let light : IsLight (pos (level + back)) = omega (arith, is, small, listed, c.rank_in-back.ensures, c.proposer_len-written.ensures.length, c.proposer_len-written.ensures.fits) in
    let from : c.from.result ≡ pos (level + back) = c.from.ensures in
    let items : c.push_reserved.new.self.items ≡ c.loop-i.weights.items ++ pos (level + back) ∷ [] =
    c.push_reserved.ensures.items ∙ ap (λ z. c.loop-i.weights.items ++ z ∷ []) (small_is c.from.result (small_of c.from.result (subst IsLight (sym from) light)) ∙ from) in
    record {
      weights =
          items ∙ ap (λ z. c.loop-i.weights.items ++ z ∷ []) weight
          ∙ ap (λ xs. xs ++ pair_weight Ranks w p (Some (written_place s p i)) ∷ []) c.loop-i.invariant.weights
          ∙ sym (map-range_with_len_more (λ i. pair_weight Ranks w p (Some (written_place s p i))) 0 i i (omega arith));
      light = subst (All IsLight) (sym items) (All-push IsLight c.loop-i.weights.items (pos (level + back)) c.loop-i.invariant.light light);
      room = omega (arith, c.push_reserved.ensures.len, c.push_reserved.ensures.capacity, c.loop-i.invariant.room, c.loop-i-test.true);
    }

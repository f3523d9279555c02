use Rattle.std.proofs.Common.{pos, replicate, ◌≡◌, ℕ, ◌++◌, ◌∷◌, [], ◌∙◌, List, ap, sym, subst, arith, length, Some, All}
use Rattle.std.proofs.lemmas.List.Elements.{All-push}
use Rattle.std.specs.List.{range_with_len}
use Rattle.std.proofs.lemmas.List.FromFn.{map-range_with_len_more, length-range_with_len}
use Rattle.sm_market.specs.Lists.{Lists, row}
use Rattle.sm_seats.specs.Seating.{written_place}
use Rattle.sm_seats.proofs.SeatingLemmas.{level_read, place_read}
use Rattle.sm_seats.proofs.SeatingLaws.{level_on_list}
use Rattle.sm_theory.proofs.Weighing.Sizes.{small_is}
use Rattle.sm_seats.specs.PlaceWeights.{IsLight, pair_given}
use Rattle.sm_seats.proofs.PlaceLemmas.{small_of, acceptable_read}
use Rattle.sm_seats.proofs.RankLemmas.{nil_of_empty, none_given, zeros}
use Rattle.sm_seats.proofs.place_weights.given_at.Goals as goal

pub overflow_sub-levels : goal.overflow_sub-levels
overflow_sub-levels c =
    let same = ap (λ (l : Lists). length (row l.proposers c.args.p)) c.market.ensures in
    let is = level_read c.args.seats.now c.args.p c.loop-i.i c.requires.levels (omega (arith, same)) in
    omega (arith, is)

pub given_to-requires-clause-on_list : goal.given_to-requires-clause-on_list
given_to-requires-clause-on_list c =
    let same = ap (λ (l : Lists). length (row l.proposers c.args.p)) c.market.ensures in
    level_on_list c.requires.seating c.args.p c.loop-i.i c.requires.levels (omega (arith, same))

pub given_to-requires-clause-acceptable : goal.given_to-requires-clause-acceptable
given_to-requires-clause-acceptable c =
    let same = ap (λ (l : Lists). length (row l.proposers c.args.p)) c.market.ensures in
    acceptable_read c.args.instance.now c.args.seats.now c.args.p c.loop-i.i c.requires.acceptable c.requires.levels (omega (arith, same))

pub loop-i-preserved : goal.loop-i-preserved
loop-i-preserved c =
    let same = ap (λ (l : Lists). length (row l.proposers c.args.p)) c.market.ensures in
    let i = c.loop-i.i in
    let w = c.args.instance.now in
    let s = c.args.seats.now in
    let p = c.args.p in
    let second = c.args.second in
    let place = place_read s p i c.requires.levels (omega (arith, same)) in
    let weight : c.given_to.result ≡ pair_given second w p (Some (written_place s p i)) = c.given_to.ensures.weight ∙ ap (λ k. pair_given second w p (Some k)) place in
    let items : c.push_reserved.new.self.items ≡ c.loop-i.weights.items ++ c.given_to.result ∷ [] =
    c.push_reserved.ensures.items ∙ ap (λ z. c.loop-i.weights.items ++ z ∷ []) (small_is c.given_to.result (small_of c.given_to.result c.given_to.ensures.size)) in
    record {
      weights =
          items ∙ ap (λ z. c.loop-i.weights.items ++ z ∷ []) weight
          ∙ ap (λ xs. xs ++ pair_given second w p (Some (written_place s p i)) ∷ []) c.loop-i.invariant.weights
          ∙ sym (map-range_with_len_more (λ i. pair_given second w p (Some (written_place s p i))) 0 i i (omega arith));
      light = subst (All IsLight) (sym items) (All-push IsLight c.loop-i.weights.items c.given_to.result c.loop-i.invariant.light c.given_to.ensures.size);
      room = omega (arith, c.push_reserved.ensures.len, c.push_reserved.ensures.capacity, c.loop-i.invariant.room, c.loop-i-test.true);
    }

pub returns-then-is_empty-clause-weights : goal.returns-then-is_empty-clause-weights
returns-then-is_empty-clause-weights c =
    let w = c.args.instance.now in
    let s = c.args.seats.now in
    let p = c.args.p in
    let same = ap (λ (l : Lists). length (row l.proposers p)) c.market.ensures in
    let second = c.args.second in
    let none : w.seconds ≡ [] = sym c.seconds.ensures.seconds ∙ nil_of_empty c.seconds.result.now c.is_empty.result c.is_empty.ensures c.if-is_empty.true in
    let places : List ℕ = range_with_len 0 (length (row s.market.proposers p)) in
    let long : c.proposer_len-places.result ≡ length places = c.proposer_len-places.ensures ∙ same ∙ sym (length-range_with_len 0 (length (row s.market.proposers p))) in
    c.in_ok-vec.ensures.items_if_clones_equal (λ y e. e)
    ∙ ap (λ n. replicate n (pos 0)) long
    ∙ zeros (λ i. pair_given second w p (Some (written_place s p i))) (λ i. none_given w none c.seconds.ensures.each second p (written_place s p i)) places

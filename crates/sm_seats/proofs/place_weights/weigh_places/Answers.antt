use Rattle.std.proofs.Common.{◌≡◌, ◌++◌, ◌∷◌, [], ◌∙◌, ap, sym, subst, arith, map, Some, All, Vec, ℤ}
use Rattle.std.specs.List.{range_with_len}
use Rattle.std.specs.declared.alloc.Global.{Global}
use Rattle.std.proofs.lemmas.List.{map_push}
use Rattle.std.proofs.lemmas.List.Elements.{All-push}
use Rattle.std.proofs.lemmas.List.FromFn.{map-range_with_len_more}
use Rattle.sm_seats.specs.Seating.{at_places}
use Rattle.sm_theory.specs.Sizes.{weights_in}
use Rattle.sm_seats.specs.PlaceWeights.{IsLight, AreLight, weigh}
use Rattle.sm_seats.proofs.PlaceLemmas.{are_acceptable}
use Rattle.sm_seats.proofs.place_weights.weigh_places.Goals as goal

pub weights_at-requires-clause-acceptable : goal.weights_at-requires-clause-acceptable
weights_at-requires-clause-acceptable c = are_acceptable c.proposer_count-p-end.ensures.instance c.requires.seats c.loop-p.p

pub loop-p-preserved : goal.loop-p-preserved
loop-p-preserved c =
    let f = at_places c.args.seats.now (λ p i. weigh c.args.weighing c.args.instance.now p (Some i)) in
    let p = c.loop-p.p in
    let row = c.in_ok-weights_at.field-0.items in
    let before = weights_in c.loop-p.weights.items in
    let rows : weights_in c.push.new.self.items ≡ before ++ row ∷ [] =
    ap weights_in c.in_ok-push.ensures.items ∙ map_push (λ (v : Vec ℤ Global). v.items) c.loop-p.weights.items c.in_ok-weights_at.field-0 in
    record {
      weights =
          rows ∙ ap (λ t. t ++ row ∷ []) c.loop-p.invariant.weights
          ∙ ap (λ r. map f (range_with_len 0 p) ++ r ∷ []) c.in_ok-weights_at.ensures.weights
          ∙ sym (map-range_with_len_more f 0 p p (omega arith));
      light = subst AreLight (sym rows) (All-push (All IsLight) before row c.loop-p.invariant.light c.in_ok-weights_at.ensures.light);
    }

use Rattle.std.proofs.Common.{ℕ, ◌∷◌, [], ◌++◌, List, Option, map, sym, ap, ◌∙◌, arith}
use Rattle.std.specs.List.{range_with_len}
use Rattle.std.specs.Option.{option_map}
use Rattle.std.proofs.lemmas.List.FromFn.{map-range_with_len_more}
use Rattle.sm_market.specs.Matching.{held}
use Rattle.sm_seats.specs.Seating.{written_place}
use Rattle.sm_seats.proofs.seats.Seats.to_hospitals.Goals as goal

pub loop-p-preserved : goal.loop-p-preserved
loop-p-preserved c =
    let s = c.args.self.now in
    let m = c.args.m.now in
    let p = c.loop-p.p in
    c.in_ok-push.ensures.items ∙ ap (λ (front : List (Option ℕ)). front ++ c.written_place.result ∷ []) c.loop-p.invariant
    ∙ ap (λ (o : Option ℕ). map (λ q. option_map (written_place s q) (held m.places.proposers q)) (range_with_len 0 p) ++ o ∷ []) c.written_place.ensures
    ∙ sym (map-range_with_len_more (λ q. option_map (written_place s q) (held m.places.proposers q)) 0 p p (omega arith))

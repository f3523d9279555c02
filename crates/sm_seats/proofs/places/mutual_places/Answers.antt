use Rattle.std.proofs.Common.{◌∙◌, ap, get_or, length, arith}
use Rattle.std.proofs.lemmas.List.FromFn.{get_or-map-range_with_len, length-map-range_with_len}
use Rattle.sm_seats.specs.Tables.{inert_places_at}
use Rattle.sm_seats.specs.Counted.{acceptable_at}
use Rattle.sm_lists.proofs.RowLemmas.{list_pushed}
use Rattle.sm_seats.proofs.places.mutual_places.Goals as goal

pub bounds-acceptable-r : goal.bounds-acceptable-r
bounds-acceptable-r c =
    let w = c.args.instance.now in
    let long = ap length c.requires ∙ length-map-range_with_len (acceptable_at w) 0 (length w.reviewers) in
    omega (arith, long, c.loop-r-test.true)

pub write_inert_places-requires-clause-acceptable : goal.write_inert_places-requires-clause-acceptable
write_inert_places-requires-clause-acceptable c =
    let w = c.args.instance.now in
    let r = c.loop-r.r in
    ap (λ l. get_or l r 0) c.requires ∙ get_or-map-range_with_len (acceptable_at w) 0 (length w.reviewers) r r 0 (omega (arith, c.loop-r-test.true)) (omega arith)

pub loop-r-preserved : goal.loop-r-preserved
loop-r-preserved c =
    rw c.in_ok-push.ensures.pushed (list_pushed c.loop-r.places c.deref.result.now (inert_places_at c.args.instance.now) c.loop-r.r c.loop-r.invariant (c.deref.ensures.value ∙ c.in_ok-write_inert_places.ensures))

use Rattle.std.proofs.Common.{◌≡◌, ℕ, ◌+◌, ◌<◌, ◌++◌, ◌∷◌, [], List, ◌∙◌, sym, ap, map, arith, length}
use Rattle.std.specs.List.{range_with_len}
use Rattle.std.proofs.lemmas.List.FromFn.{map-range_with_len_more}
use Rattle.sm_agents.specs.Written.{row, entry}
use Rattle.sm_seats.specs.Tables.{mutual_before}
use Rattle.sm_seats.proofs.CrossLemmas.{lists_back-told, cross_read}
use Rattle.sm_seats.proofs.TableLemmas.{count_more, count_same}
use Rattle.sm_seats.proofs.places.write_mutual_places.Goals as goal
use Rattle.sm_seats.proofs.places.write_mutual_places.Goals.{then-is_some, else-is_some}

pub loop-place-preserved : goal.loop-place-preserved
loop-place-preserved c =
    let w = c.args.instance.now in
    let r = c.args.r in
    let i = c.loop-place.place in
    let on : i < length (row w.reviewers r) = omega (arith, c.loop-place-test.true) in
    let cross = cross_read c.reviewer_crosses-crosses.ensures on c.index-crosses-place.is c.place.ensures in
    let tells = lists_back-told w.proposers r (entry w.reviewers r i) cross c.is_some.ensures in
    let before : c.loop-place.before ≡ mutual_before w r i = c.loop-place.invariant.counted.counted in
    let places : c.push_reserved.new.self.items ≡ map (mutual_before w r) (range_with_len 0 (i + 1)) =
    c.push_reserved.ensures.items ∙ ap (λ (front : List ℕ). front ++ c.loop-place.before ∷ []) c.loop-place.invariant.places ∙ ap (λ (n : ℕ). map (mutual_before w r) (range_with_len 0 i) ++ n ∷ []) before
    ∙ sym (map-range_with_len_more (mutual_before w r) 0 i i (omega arith)) in
    elim c.if-is_some.branch [
      | then-is_some b ↦ record { counted = rw b.before-is (count_more on (tells ∙ b.if-is_some.true) c.loop-place.invariant.counted); places = places; room = omega (arith, c.push_reserved.ensures.len, c.push_reserved.ensures.capacity, c.loop-place.invariant.room, c.loop-place-test.true) }
      | else-is_some b ↦ record { counted = rw b.before-is (count_same on (tells ∙ b.if-is_some.false) c.loop-place.invariant.counted); places = places; room = omega (arith, c.push_reserved.ensures.len, c.push_reserved.ensures.capacity, c.loop-place.invariant.room, c.loop-place-test.true) }
    ]

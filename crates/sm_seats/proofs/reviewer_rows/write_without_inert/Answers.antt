use Rattle.std.proofs.Common.{◌≡◌, ℕ, ◌<◌, ◌∷◌, [], ◌++◌, List, get_or, length, take, sym, ap, ◌∙◌, arith}
use Rattle.std.specs.List.{filter}
use Rattle.sm_agents.specs.Written.{row, entry}
use Rattle.sm_seats.specs.Mutual.{lists_back}
use Rattle.sm_seats.proofs.CrossLemmas.{cross_read, lists_back-told, back_more, back_same}
use Rattle.sm_seats.proofs.reviewer_rows.write_without_inert.Goals as goal
use Rattle.sm_seats.proofs.reviewer_rows.write_without_inert.Goals.{then-is_some, else-is_some}

pub loop-place-preserved : goal.loop-place-preserved
loop-place-preserved c =
    let w = c.args.instance.now in
    let r = c.args.r in
    let i = c.loop-place.place in
    let e = c.reviewer_list-list.ensures in
    let on : i < length (row w.reviewers r) = let same = ap length e in omega (arith, c.loop-place-test.true) in
    let cross = cross_read c.reviewer_crosses-crosses.ensures on c.index-crosses-place.is c.place.ensures in
    let tells = lists_back-told w.proposers r (entry w.reviewers r i) cross c.is_some.ensures in
    let p : ℕ = entry w.reviewers r i in
    let named : get_or c.reviewer_list-list.result.now i 0 ≡ p = ap (λ l. get_or l i 0) e in
    let before = c.loop-place.invariant.kept in
    let room = c.loop-place.invariant.room in
    let xs : List ℕ = filter (lists_back w.proposers r) (take i (row w.reviewers r)) in
    elim c.if-is_some.branch [
      | then-is_some b ↦
          record {
            kept = rw b.kept-is (b.push_reserved.ensures.items ∙ ap (λ (l : List ℕ). l ++ get_or c.reviewer_list-list.result.now i 0 ∷ []) before ∙ ap (λ (q : ℕ). xs ++ q ∷ []) named
                ∙ sym (back_more w.reviewers w.proposers r i on (tells ∙ b.if-is_some.true)));
            room = rw b.kept-is (omega (arith, b.push_reserved.ensures.len, b.push_reserved.ensures.capacity, room, c.loop-place-test.true));
          }
      | else-is_some b ↦
          record {
            kept = rw b.kept-is (before ∙ sym (back_same w.reviewers w.proposers r i on (tells ∙ b.if-is_some.false)));
            room = rw b.kept-is (omega (arith, room));
          }
    ]

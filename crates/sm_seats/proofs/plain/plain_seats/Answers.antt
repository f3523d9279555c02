use Rattle.std.proofs.Common.{ℕ, ◌<◌, ◌∷◌, [], List, length, sym, ap, ◌∙◌, arith}
use Rattle.std.specs.List.{flat_map, range_with_len}
use Rattle.sm_seats.specs.SeatMarket.{named_seats}
use Rattle.sm_seats.specs.Tables.{lists_for}
use Rattle.sm_lists.proofs.RangeLemmas.{range_more}
use Rattle.sm_seats.proofs.RowLemmas.{piece_pushed}
use Rattle.sm_seats.proofs.PlainLemmas.{named_is, lists_for_is, seat_crosses_are_written}
use Rattle.sm_seats.proofs.plain.plain_seats.Goals as goal

pub loop-r-preserved : goal.loop-r-preserved
loop-r-preserved c =
    let w = c.args.instance.now in
    let r = c.loop-r.r in
    let before = c.loop-r.invariant in
    let it = c.reviewer_count-reviewers.ensures.instance in
    let there : r < length w.reviewers = omega (arith, c.loop-r-test.true, c.reviewer_count-reviewers.ensures.count) in
    let all = sym (range_more 0 r r (omega arith)) in
    record {
      seats = piece_pushed (named_seats w) (range_with_len 0 r) r _ _ _ before.seats c.in_ok-push.ensures.items (sym (named_is it c.requires.plain r there)) ∙ ap (flat_map (named_seats w)) all;
      lists = piece_pushed (lists_for w) (range_with_len 0 r) r _ _ _ before.lists c.in_ok-push-2.ensures.pushed
          (ap (λ (l : List ℕ). l ∷ []) c.reviewer_list.ensures ∙ sym (lists_for_is it c.requires.plain r there)) ∙ ap (flat_map (lists_for w)) all;
    }

pub returns-clause-crosses : goal.returns-clause-crosses
returns-clause-crosses c =
    let it = c.reviewer_count-reviewers.ensures.instance in
    c.in_ok-crosses.ensures ∙ seat_crosses_are_written it c.requires.plain c.args.crosses c.requires.crosses

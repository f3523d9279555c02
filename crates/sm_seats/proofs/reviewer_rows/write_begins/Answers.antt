use Rattle.std.proofs.Common.{◌≡◌, ℕ, ◌+◌, ◌<◌, ◌∷◌, [], ◌++◌, List, get_or, length, map, take, sym, ap, ◌∙◌, arith}
use Rattle.std.specs.List.{filter}
use Rattle.std.proofs.lemmas.List.FromFn.{length-map-range_with_len}
use Rattle.std.proofs.lemmas.List.{map_push}
use Rattle.sm_lists.specs.Rows.{row as table_row, entry as table_entry}
use Rattle.sm_agents.specs.Written.{row, entry}
use Rattle.sm_seats.specs.Mutual.{lists_back}
use Rattle.sm_seats.specs.Tables.{begin_of, seat_places_of, seat_places_at, seats_listed}
use Rattle.sm_seats.proofs.CrossLemmas.{cross_read, crossed_at, lists_back-none, back_more, back_same}
use Rattle.sm_seats.proofs.TableLemmas.{seat_place_at, seat_row_at, begins_small}
use Rattle.sm_seats.proofs.reviewer_rows.write_begins.Goals as goal
use Rattle.sm_seats.proofs.reviewer_rows.write_begins.Goals.{in-Some, in_default}

pub entry_at-requires-clause-in_range : goal.entry_at-requires-clause-in_range
entry_at-requires-clause-in_range c =
    let w = c.args.instance.now in
    let i = c.loop-place.place in
    let e = c.reviewer_list-list.ensures in
    let on : i < length (row w.reviewers c.args.r) = let same = ap length e in omega (arith, c.loop-place-test.true) in
    let there = (c.requires.instance.reviewer_entries.sound c.args.r i on).in_range in
    let named = ap (λ l. get_or l i 0) e in
    let long = ap length c.requires.begins ∙ length-map-range_with_len (seat_places_at w) 0 (length w.proposers) in
    omega (arith, long, there, named)

pub entry_at-requires-clause-on_list : goal.entry_at-requires-clause-on_list
entry_at-requires-clause-on_list c =
    let w = c.args.instance.now in
    let r = c.args.r in
    let i = c.loop-place.place in
    let e = c.reviewer_list-list.ensures in
    let on : i < length (row w.reviewers r) = let same = ap length e in omega (arith, c.loop-place-test.true) in
    let cross = cross_read c.reviewer_crosses-crosses.ensures on c.index-crosses-place.is c.place.ensures in
    let it = crossed_at c.requires.instance.reviewer_entries on cross c.in-Some.is in
    let p : ℕ = entry w.reviewers r i in
    let named : get_or c.reviewer_list-list.result.now i 0 ≡ p = ap (λ l. get_or l i 0) e in
    let there = (c.requires.instance.reviewer_entries.sound r i on).in_range in
    let long = ap (λ q. length (table_row c.args.begins.now q)) named ∙ ap (λ t. length (table_row t p)) c.requires.begins ∙ ap length (seat_row_at w p there)
    ∙ length-map-range_with_len (seats_listed w p) 0 (length (row w.proposers p) + 1) in
    omega (arith, long, it.back, it.mutual_.listed)

pub loop-place-preserved : goal.loop-place-preserved
loop-place-preserved c =
    let w = c.args.instance.now in
    let r = c.args.r in
    let i = c.loop-place.place in
    let e = c.reviewer_list-list.ensures in
    let on : i < length (row w.reviewers r) = let same = ap length e in omega (arith, c.loop-place-test.true) in
    let cross = cross_read c.reviewer_crosses-crosses.ensures on c.index-crosses-place.is c.place.ensures in
    let p : ℕ = entry w.reviewers r i in
    let named : get_or c.reviewer_list-list.result.now i 0 ≡ p = ap (λ l. get_or l i 0) e in
    let before = c.loop-place.invariant.kept in
    let room = c.loop-place.invariant.room in
    let xs : List ℕ = filter (lists_back w.proposers r) (take i (row w.reviewers r)) in
    elim c.match-place.branch [
      | in-Some b ↦
          let it = crossed_at c.requires.instance.reviewer_entries on cross b.in-Some.is in
          let more = back_more w.reviewers w.proposers r i on it.passes in
          let there = (c.requires.instance.reviewer_entries.sound r i on).in_range in
          let begin : b.entry_at.result ≡ begin_of w r p =
          b.entry_at.ensures ∙ ap (λ t. table_entry t (get_or c.reviewer_list-list.result.now i 0) b.in-Some.back) c.requires.begins ∙ ap (λ q. table_entry (seat_places_of w) q b.in-Some.back) named
          ∙ seat_place_at w p b.in-Some.back there (omega (arith, it.back, it.mutual_.listed)) ∙ ap (seats_listed w p) (sym it.back) in
          record {
            kept = rw b.kept-is (b.push_reserved.ensures.items ∙ ap (λ (l : List ℕ). l ++ b.entry_at.result ∷ []) before ∙ ap (λ (n : ℕ). map (begin_of w r) xs ++ n ∷ []) begin
                ∙ sym (map_push (begin_of w r) xs p) ∙ ap (map (begin_of w r)) (sym more));
            room = rw b.kept-is (omega (arith, b.push_reserved.ensures.len, b.push_reserved.ensures.capacity, room, c.loop-place-test.true));
          }
      | in_default b ↦
          let same = back_same w.reviewers w.proposers r i on (lists_back-none w.reviewers w.proposers r i cross b.in_default.is) in
          record {
            kept = rw b.kept-is (before ∙ ap (map (begin_of w r)) (sym same));
            room = rw b.kept-is (omega (arith, room));
          }
    ]

pub returns-clause-small : goal.returns-clause-small
returns-clause-small c = begins_small c.requires.instance c.args.r _ c.loop-place.kept.items c.loop-place.invariant.kept

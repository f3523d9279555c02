use Rattle.std.proofs.Common.{length, get_or, ap, ◌∙◌, arith}
use Rattle.std.proofs.lemmas.List.FromFn.{length-map-range_with_len}
use Rattle.sm_lists.specs.Rows.{row as table_row}
use Rattle.sm_seats.specs.Tables.{inert_places_at}
use Rattle.sm_seats.proofs.TableLemmas.{inert_row_at, mutual_place_read, mutual_place_same}
use Rattle.sm_seats.proofs.places.mutual_place.Goals as goal

pub at-table-requires : goal.at-table-requires
at-table-requires c =
    let w = c.args.instance.now in
    let long = ap length c.requires.places ∙ length-map-range_with_len (inert_places_at w) 0 (length w.reviewers) in
    omega (arith, long, c.requires.in_range)

pub returns-then-place-table : goal.returns-then-place-table
returns-then-place-table c =
    let w = c.args.instance.now in
    let r = c.args.r in
    let e = c.at-table.ensures ∙ ap (λ t. table_row t r) c.requires.places ∙ inert_row_at w r c.requires.in_range in
    let long = ap length e in
    ap (λ l. get_or l c.args.place 0) e ∙ mutual_place_read w r c.args.place c.requires.on_list (omega (arith, long, c.if-place-table.true))

pub returns-else-place-table : goal.returns-else-place-table
returns-else-place-table c =
    let w = c.args.instance.now in
    let r = c.args.r in
    let e = c.at-table.ensures ∙ ap (λ t. table_row t r) c.requires.places ∙ inert_row_at w r c.requires.in_range in
    let long = ap length e in
    mutual_place_same w r c.args.place c.requires.on_list (omega (arith, long, c.if-place-table.false))

use Rattle.std.proofs.Common.{ℕ, List, map, subst, sym, arith}
use Rattle.std.proofs.lemmas.List.{length-map}
use Rattle.sm_lists.specs.Crosses.{AreCrossPlacesOf}
use Rattle.sm_lists.specs.Held.{place_in}
use Rattle.sm_lists.proofs.RowLemmas.{row_in_range}
use Rattle.sm_market.specs.Vectors.{rows_of}
use Rattle.sm_market.proofs.WalkLemmas.{crosses_read, crosses_sound}
use Rattle.sm_market.proofs.entries.check_entries.Goals as goal

pub check_list-requires-clause-crosses : goal.check_list-requires-clause-crosses
check_list-requires-clause-crosses c =
    let rows = rows_of c.args.rows.now in
    let others = rows_of c.args.others.now in
    let long = length-map c.args.rows.now (λ v. v.items) in
    subst (λ (list : List ℕ). AreCrossPlacesOf rows others c.loop-a.a (map place_in list)) (sym c.at.ensures)
    (crosses_read c.args.crosses.now c.loop-a.a c.requires.crosses (omega arith))

pub returns-clause-crosses : goal.returns-clause-crosses
returns-clause-crosses c =
    let rows = rows_of c.args.rows.now in
    let long = length-map c.args.rows.now (λ v. v.items) in
    crosses_sound c.args.crosses.now c.requires.crosses
    (record { sound = λ a i on. let lt = row_in_range rows a i on in c.loop-a.invariant.sound a i (omega arith) on })

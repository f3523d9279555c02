use Rattle.std.proofs.Common.{◌≡◌, ℕ, ◌<◌, ap, sym, ◌∙◌, List, [], Option, Vec, length, slice_index_or, eqb-true, inl, inr, arith}
use Rattle.std.specs.declared.alloc.Global.{Global}
use Rattle.std.specs.Vec.{with_item}
use Rattle.std.proofs.lemmas.Bool.{eqb-false}
use Rattle.std.proofs.lemmas.List.{get_or-map, length-map, map-set, nil_from_length}
use Rattle.sm_lists.proofs.Counting.{lt_or_le}
use Rattle.sm_theory.specs.Marks.{marks_in, marks_of}
use Rattle.sm_theory.proofs.Chains.Marking.{IsRowFor, row_for_made, row_for_old, entry_marked}
use Rattle.sm_theory.proofs.marks.put.Goals.{then-is_empty+in_ok-make_row, else-is_empty}
use Rattle.sm_theory.proofs.marks.put.Goals as goal

pub returns : goal.returns
returns c =
    let items : Vec (Option ℕ) Global → List (Option ℕ) = λ v. v.items in
    let row : Vec (Option ℕ) Global = slice_index_or c.args.rows.now c.args.p c.index-rows-p.result in
    let inside : c.args.p < length c.args.rows.now = omega (arith, c.requires.in_range, c.requires.for_entries.one_each, length-map c.args.rows.now items) in
    let old : marks_of (marks_in c.args.rows.now) c.args.p ≡ row.items = get_or-map items c.args.rows.now c.args.p c.index-rows-p.result [] inside in
    let made : IsRowFor c.args.market.now c.args.p (marks_in c.args.rows.now) c.if-is_empty.row.items = elim c.if-is_empty.branch [
      | then-is_empty+in_ok-make_row w ↦
          let none : row.len ≡ 0 = eqb-true _ _ (sym c.is_empty.ensures ∙ w.if-is_empty.true) in
          row_for_made (old ∙ nil_from_length row.items (sym row.ok.0 ∙ none)) (ap items w.row-is ∙ w.in_ok-make_row.ensures)
      | else-is_empty w ↦
          let some : row.len ≡ 0 → ⊥ = eqb-false _ _ (sym c.is_empty.ensures ∙ w.if-is_empty.false) in
          rw w.row-is (row_for_old c.requires.for_entries old (elim (lt_or_le 0 (length row.items)) [ inl more ↦ more | inr none ↦ absurd (some (row.ok.0 ∙ omega arith)) ]))
    ] in
    rw (map-set items c.args.rows.now c.args.p (with_item c.if-is_empty.row c.args.place c.args.mark)) (entry_marked c.requires.in_range c.requires.on_list c.requires.for_entries made)

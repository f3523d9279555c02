use Rattle.std.proofs.Common.{◌≡◌, ◌≢◌, ℕ, ◌<◌, ◌++◌, ◌∷◌, [], refl, sym, ap, ◌∙◌, arith, List, Vec, length, slice_index_or, Some, eqb}
use Rattle.std.specs.Option.{option_eq}
use Rattle.std.proofs.lemmas.Bool.{not-true, not-false}
use Rattle.std.specs.declared.alloc.Global.{Global}
use Rattle.std.proofs.lemmas.List.{get_or-map, map-set, length-map, set-get_or}
use Rattle.sm_market.specs.Lists.{row}
use Rattle.sm_market.specs.Vectors.{rows_of}
use Rattle.sm_rotations.specs.Graph.{last_of}
use Rattle.sm_rotations.proofs.TurnedBackLemmas.{added_pushed, added_same, same_number, other_number}
use Rattle.sm_rotations.proofs.graph.add_once.Goals.{then-ne+in_ok-push, else-ne}
use Rattle.sm_rotations.proofs.graph.add_once.Goals as goal

pub loop-j-preserved : goal.loop-j-preserved
loop-j-preserved c =
    let j : ℕ = slice_index_or c.args.those.now c.loop-j.j-index 0 in
    let inside : c.loop-j.j-index < length c.args.those.now = omega arith in
    let there : j < length c.loop-j.lists = let same = c.loop-j.auto.lists in omega (arith, c.requires.in_range c.loop-j.j-index inside) in
    let long : length (rows_of c.loop-j.lists) ≡ length c.loop-j.lists = length-map c.loop-j.lists (λ v. v.items) in
    let read = sym (get_or-map (λ (v : Vec ℕ Global). v.items) c.loop-j.lists j c.index-lists-j.result [] there) in
    let old : c.index-lists-j.result.items ≡ row (rows_of c.loop-j.lists) j = ap (λ (v : Vec ℕ Global). v.items) c.index-lists-j.is ∙ read in
    let last : c.copied.result ≡ last_of (row (rows_of c.loop-j.lists) j) = c.copied.ensures ∙ c.last.ensures.value ∙ ap last_of (c.deref.ensures.value ∙ read) in
    elim c.if-ne.branch [
      | then-ne+in_ok-push w ↦
          let unlike : last_of (row (rows_of c.loop-j.lists) j) ≢ Some c.args.number = rw last at (other_number c.copied.result c.args.number (not-true (option_eq eqb c.copied.result (Some c.args.number)) (sym c.ne.ensures ∙ w.if-ne.true))) in
          let pushed : w.push.new.self.items ≡ row (rows_of c.loop-j.lists) j ++ c.args.number ∷ [] = w.in_ok-push.ensures.items ∙ ap (λ (x : List ℕ). x ++ c.args.number ∷ []) read in
          rw (w.lists-is, map-set (λ (v : Vec ℕ Global). v.items) c.loop-j.lists j w.push.new.self)
          (added_pushed c.args.those.now inside refl (omega arith) c.requires.lower c.loop-j.invariant w.push.new.self.items unlike pushed)
      | else-ne w ↦
          let closed : last_of (row (rows_of c.loop-j.lists) j) ≡ Some c.args.number = sym last ∙ same_number c.copied.result c.args.number (not-false (option_eq eqb c.copied.result (Some c.args.number)) (sym c.ne.ensures ∙ w.if-ne.false)) in
          rw (w.lists-is ∙ set-get_or c.loop-j.lists j c.index-lists-j.result)
          (added_same c.args.those.now inside refl (omega arith) c.requires.lower c.loop-j.invariant closed)
    ]

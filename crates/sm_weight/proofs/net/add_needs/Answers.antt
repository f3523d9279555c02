use Rattle.std.proofs.Common.{◌≡◌, ℕ, suc, ◌+◌, ◌++◌, arith, ap, ◌∙◌, List, Vec}
use Rattle.std.specs.declared.alloc.Global.{Global}
use Rattle.std.proofs.lemmas.List.{append_assoc}
use Rattle.sm_market.specs.Lists.{row}
use Rattle.sm_market.specs.Vectors.{rows_of}
use Rattle.sm_lists.proofs.RowLemmas.{vector_read}
use Rattle.sm_weight.specs.declared.edges.Edge.{Edge}
use Rattle.sm_weight.specs.Net.{joined, need_edges, need_edges_of}
use Rattle.sm_weight.proofs.net.add_needs.Goals as goal

pub add_needs_of-requires-clause-numbers : goal.add_needs_of-requires-clause-numbers
add_needs_of-requires-clause-numbers c =
    let k : ℕ = c.loop-k.k in
    let list : c.deref.result.now ≡ row (rows_of c.args.needs.now) k = c.deref.ensures.value ∙ ap (λ (v : Vec ℕ Global). v.items) c.index-needs-k.is ∙ vector_read c.args.needs.now k c.index-needs-k.result c.loop-k-test.true in
    rw list (c.requires.numbers k)

pub loop-k-preserved : goal.loop-k-preserved
loop-k-preserved c =
    let k : ℕ = c.loop-k.k in
    let list : c.deref.result.now ≡ row (rows_of c.args.needs.now) k = c.deref.ensures.value ∙ ap (λ (v : Vec ℕ Global). v.items) c.index-needs-k.is ∙ vector_read c.args.needs.now k c.index-needs-k.result c.loop-k-test.true in
    let next : suc k ≡ k + 1 = omega arith in
    c.in_ok-add_needs_of.ensures
    ∙ ap (λ (xs : List ℕ). c.loop-k.edges.items ++ need_edges_of k xs) list
    ∙ ap (λ (es : List Edge). es ++ need_edges (rows_of c.args.needs.now) k) c.loop-k.invariant
    ∙ append_assoc c.args.edges.now.items (joined (need_edges (rows_of c.args.needs.now)) k) (need_edges (rows_of c.args.needs.now) k)
    ∙ ap (λ n. c.args.edges.now.items ++ joined (need_edges (rows_of c.args.needs.now)) n) next

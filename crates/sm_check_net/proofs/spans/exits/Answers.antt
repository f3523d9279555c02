use Rattle.std.proofs.Common.{◌≡◌, ℕ, ◌+◌, ◌<◌, arith, sym, ap, ◌∙◌, List, length, replicate, slice_index}
use Rattle.std.proofs.lemmas.List.{length-map, length-replicate, get_or-replicate}
use Rattle.sm_lists.specs.Rows.{rows_of}
use Rattle.sm_lists.proofs.ResultLemmas.{take-append_at_length}
use Rattle.sm_check_net.specs.Moves.{moves_in}
use Rattle.sm_check_net.proofs.SpanLemmas.{exits_are}
use Rattle.sm_check_net.proofs.spans.exits.Goals as goal

pub returns : goal.returns
returns c =
    let n : ℕ = length c.args.keys.now in
    let sink : ℕ = length c.args.moves.now + 1 in
    let items : c.deref_mut.result.now ≡ replicate c.len.result sink = c.deref_mut.ensures.value ∙ c.in_ok-nodes.ensures in
    let long : length c.mark_all.new.nodes ≡ c.in_ok-nodes.nodes.len = omega (arith, c.mark_all.ensures.one_each, c.deref_mut.ensures.len) in
    let each : length c.deref_mut.result.now ≡ n = ap length items ∙ length-replicate {A = ℕ} c.len.result sink ∙ c.len.ensures in
    let all : (x : ℕ) → x < n → slice_index c.deref_mut.result.now x ≡ sink =
    (λ x less. ap (λ (xs : List ℕ). slice_index xs x) items ∙ get_or-replicate {A = ℕ} c.len.result x sink 0 (omega (arith, c.len.ensures, less))) in
    rw (take-append_at_length c.in_ok-nodes.nodes.len c.mark_all.new.nodes _ long)
    (exits_are (rows_of c.args.levels.now) (moves_in c.args.moves.now) _ _ sink (sym (length-map c.args.moves.now _)) (omega arith) each all c.mark_all.ensures.one_each c.mark_all.ensures.marked)

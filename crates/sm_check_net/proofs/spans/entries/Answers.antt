use Rattle.std.proofs.Common.{◌≡◌, arith, sym, length}
use Rattle.std.proofs.lemmas.List.{length-map}
use Rattle.sm_lists.specs.Rows.{rows_of}
use Rattle.sm_lists.proofs.ResultLemmas.{take-append_at_length}
use Rattle.sm_check_net.specs.Moves.{moves_in}
use Rattle.sm_check_net.proofs.SpanLemmas.{entries_are}
use Rattle.sm_check_net.proofs.spans.entries.Goals as goal

pub returns : goal.returns
returns c =
    let value = c.deref_mut.ensures.value in
    let long : length c.mark_all.new.nodes ≡ c.in_ok-nodes.nodes.len = omega (arith, c.mark_all.ensures.one_each, c.deref_mut.ensures.len) in
    rw (take-append_at_length c.in_ok-nodes.nodes.len c.mark_all.new.nodes _ long)
    (entries_are (rows_of c.args.levels.now) c.args.first.now.places.proposers (moves_in c.args.moves.now) _ _ (sym (length-map c.args.moves.now _)) (omega arith)
    (rw value c.in_ok-nodes.ensures) c.mark_all.ensures.one_each c.mark_all.ensures.marked)

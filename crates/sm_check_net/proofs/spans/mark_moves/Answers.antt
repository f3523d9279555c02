use Rattle.std.proofs.Common.{ap, ◌∙◌, arith, List, slice_index}
use Rattle.std.proofs.lemmas.List.{take_all}
use Rattle.sm_lists.specs.Rows.{rows_of}
use Rattle.sm_check_net.specs.declared.moves.Move.{Move}
use Rattle.sm_check_net.specs.Spans.{passes, some_pass, marked}
use Rattle.sm_check_net.proofs.SpanLemmas.{marked_more}
use Rattle.sm_check_net.proofs.spans.mark_moves.Goals as goal

pub loop-n-preserved : goal.loop-n-preserved
loop-n-preserved c = record {
  one_each = c.mark_move.ensures.one_each ∙ c.loop-n.invariant.one_each;
  marked = λ x i j f. marked_more (passes c.args.passages.passage (rows_of c.args.passages.levels.now) i j) c.args.moves.now c.loop-n.n c.args.node c.args.sink (slice_index c.args.nodes.now x)
      c.loop-n-test.true c.requires.node (c.loop-n.invariant.marked x i j f) (c.mark_move.ensures.marked x i j f);
}

pub returns-clause-marked : goal.returns-clause-marked
returns-clause-marked c x i j f =
    c.loop-n.invariant.marked x i j f
    ∙ ap (λ (xs : List Move). marked (some_pass c.args.passages.passage (rows_of c.args.passages.levels.now) i j xs) c.args.node c.args.sink (slice_index c.args.nodes.now x))
    (take_all c.loop-n.n c.args.moves.now (omega (arith, c.loop-n-test.false)))

use Rattle.std.proofs.Common.{◌≡◌, ℕ, ◌+◌, ap, ◌∙◌, arith, length, slice_index, Bool}
use Rattle.sm_lists.specs.Rows.{rows_of}
use Rattle.sm_check_net.specs.Moves.{moves_in, row_of_moves}
use Rattle.sm_check_net.specs.Spans.{some_pass, marked, marks}
use Rattle.sm_check_net.proofs.SpanLemmas.{marks_more}
use Rattle.sm_check_net.proofs.spans.mark_all.Goals as goal

pub loop-k-preserved : goal.loop-k-preserved
loop-k-preserved c = record {
  one_each = c.mark_moves.ensures.one_each ∙ c.loop-k.invariant.one_each;
  marked = λ x i j f.
      let test : ℕ → Bool = (λ k. some_pass c.args.passages.passage (rows_of c.args.passages.levels.now) i j (row_of_moves (moves_in c.args.moves.now) k)) in
      let was = c.loop-k.invariant.marked x i j f in
      c.mark_moves.ensures.marked x i j f
      ∙ (λ t. marked (some_pass c.args.passages.passage (rows_of c.args.passages.levels.now) i j (c.moves_at.ensures t)) (c.loop-k.k + 1) c.args.sink (was t))
      ∙ marks_more test c.loop-k.k c.args.sink (slice_index c.args.nodes.now x);
}

pub returns-clause-marked : goal.returns-clause-marked
returns-clause-marked c x i j f =
    let all : c.loop-k.k ≡ length c.args.moves.now = omega (arith, c.loop-k-test.false, c.loop-k.auto.k-end) in
    c.loop-k.invariant.marked x i j f
    ∙ ap (λ n. marks (λ k. some_pass c.args.passages.passage (rows_of c.args.passages.levels.now) i j (row_of_moves (moves_in c.args.moves.now) k)) n c.args.sink (slice_index c.args.nodes.now x)) all

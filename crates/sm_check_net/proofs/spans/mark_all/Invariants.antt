use Rattle.std.proofs.Common.{◌≡◌, ℕ, length, slice_index}
use Rattle.sm_lists.specs.Rows.{rows_of}
use Rattle.sm_check_net.specs.Pairs.{IsFirstAt}
use Rattle.sm_check_net.specs.Moves.{moves_in, row_of_moves}
use Rattle.sm_check_net.specs.Spans.{some_pass, marks}
use Rattle.sm_check_net.proofs.spans.mark_all.Given as goal

abbrev pub invariant-loop-k : goal.invariant-loop-k
invariant-loop-k l = record {
  one_each : length l.nodes ≡ length l.initial.nodes;
  marked : (x i j : ℕ) → IsFirstAt l.keys (i, j) x → slice_index l.nodes x ≡ marks (λ k. some_pass l.passages.passage (rows_of l.passages.levels.now) i j (row_of_moves (moves_in l.moves) k)) l.k l.sink (slice_index l.initial.nodes x);
}

use Rattle.std.proofs.Common.{◌≡◌, ℕ, length, slice_index, take}
use Rattle.sm_lists.specs.Rows.{rows_of}
use Rattle.sm_check_net.specs.Pairs.{IsFirstAt}
use Rattle.sm_check_net.specs.Spans.{some_pass, marked}
use Rattle.sm_check_net.proofs.spans.mark_moves.Given as goal

abbrev pub invariant-loop-n : goal.invariant-loop-n
invariant-loop-n l = record {
  one_each : length l.nodes ≡ length l.initial.nodes;
  marked : (x i j : ℕ) → IsFirstAt l.keys (i, j) x → slice_index l.nodes x ≡ marked (some_pass l.passages.passage (rows_of l.passages.levels.now) i j (take l.n l.moves)) l.node l.sink (slice_index l.initial.nodes x);
}

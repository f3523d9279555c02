use Rattle.std.proofs.Common.{◌≡◌, map, slice_index}
use Rattle.std.specs.List.{range_with_len}
use Rattle.sm_market.specs.Lists.{row}
use Rattle.sm_market.specs.Vectors.{rows_of}
use Rattle.sm_poset.specs.Moves.{moves_in}
use Rattle.sm_board.specs.BoardOf.{places_at}
use Rattle.sm_board.proofs.make.stay_levels.Given as goal

abbrev pub invariant-loop-p : goal.invariant-loop-p
invariant-loop-p l = rows_of l.made.items ≡ map
    (λ p. map (λ i. slice_index (row (rows_of l.levels) p) i) (places_at l.poset.lists l.poset.first.places (moves_in l.moves) p))
    (range_with_len 0 l.p)

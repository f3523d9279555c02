use Rattle.std.proofs.Common.{◌≡◌, ◌∷◌, map, take, slice_index}
use Rattle.sm_board.proofs.make.levels_at.Given as goal

abbrev pub invariant-loop-place : goal.invariant-loop-place
invariant-loop-place l = l.at.items ≡ map (λ i. slice_index l.levels i) (l.first ∷ map (λ m. m.1) (take l.place-index l.moves))

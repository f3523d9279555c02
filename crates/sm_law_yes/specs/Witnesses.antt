-- Lines in two orders, so that the laws of their order are about something.
use Rattle.std.specs.Prelude.{[], ◌∷◌}
use Rattle.sm_report.specs.Lines.{LineData}
use Rattle.sm_law_yes.specs.Reordered.{IsReordered}

-- two pairs are exchanged, and two vectors can't be
abbrev pub PairsAndVectors : Type 0
PairsAndVectors = IsReordered (LineData.Pair 0 1 ∷ LineData.Pair 1 0 ∷ LineData.End ∷ []) (LineData.Pair 1 0 ∷ LineData.Pair 0 1 ∷ LineData.End ∷ [])
    × ¬ IsReordered (LineData.Vector (1 ∷ []) ∷ LineData.Vector (2 ∷ []) ∷ []) (LineData.Vector (2 ∷ []) ∷ LineData.Vector (1 ∷ []) ∷ [])

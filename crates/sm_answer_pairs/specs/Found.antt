-- The stable pairs by the levels of an instance's seats.
use Rattle.std.specs.Prelude.{ℕ, ◌-◌, ◌<◌, ◌==◌, nat_le, Bool, List, [], ◌∷◌, ◌++◌, filter, map, length, slice_index}
use Rattle.std.specs.List.{flat_map, range_with_len}
use Rattle.sm_lists.specs.Rows.{row}
use Rattle.sm_agents.specs.Written.{Written, row as written_row, entry}
use Rattle.sm_report.specs.Heads.{HeadData}
use Rattle.sm_report.specs.Lines.{LineData}
use Rattle.sm_answer_pairs.specs.PairsAnswer.{partner_line}
use Rattle.sm_answer_pairs.specs.declared.pairs.StablePair.{StablePair}

-- the line of a pair
abbrev pub line_of_pair : StablePair → LineData
line_of_pair pair = partner_line pair.fixed pair.proposer pair.reviewer

-- the lines as they are given
abbrev pub pairs_given : List StablePair → List LineData
pairs_given pairs = LineData.Answer HeadData.Pairs ∷ (map line_of_pair pairs ++ LineData.End ∷ [])

-- the places that have these levels, which are ranks; being unmatched has none
abbrev pub places_of : Written → (p : ℕ) → (levels : List ℕ) → List ℕ
places_of w p levels = map (λ level. level - 1) (filter (λ level. nat_le level (length (written_row w.proposers p))) levels)

-- the pair of p and the reviewer at a place of its list
abbrev pub pair_at : Written → Bool → (p i : ℕ) → StablePair
pair_at w fixed p i = record { proposer = p; reviewer = entry w.proposers p i; fixed = fixed }

-- the pairs of a proposer that has these levels; with one level it is at the same place in every stable matching
abbrev pub pairs_at_levels : Written → Bool → (p : ℕ) → (levels : List ℕ) → List StablePair
pairs_at_levels w fixed p levels = map (pair_at w fixed p) (places_of w p levels)

-- the stable pairs of the first n proposers by their levels
abbrev pub pairs_by_levels : Written → (rows : List (List ℕ)) → (n : ℕ) → List StablePair
pairs_by_levels w rows n = flat_map (λ p. pairs_at_levels w (length (row rows p) == 1) p (row rows p)) (range_with_len 0 n)

-- levels from 1 on
abbrev pub AreFromOne : (levels : List ℕ) → Type 0
AreFromOne levels = (k : ℕ) → k < length levels → 0 < slice_index levels k

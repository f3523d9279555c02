-- How often each number stands in lists, counted list after list.
use Rattle.std.proofs.Common.{◌≡◌, ℕ, suc, ◌+◌, ◌<◌, ◌≤◌, inl, inr, arith, ◌∙◌, List, length, take, true, slice_index_or}
use Rattle.std.proofs.lemmas.List.{get_or_past}
use Rattle.sm_market.specs.Lists.{row}
use Rattle.sm_lists.proofs.Counting.{lt_or_le}
use Rattle.sm_rotations.specs.Graph.{times, AreCounts, AreCounted}
use Rattle.sm_rotations.proofs.TimesLemmas.{times_more, times_part, below_suc, below_le}

-- there is room for it
pub room_for_one : {e j n : ℕ} (list : List ℕ) {before counts : List ℕ} → e < length list → slice_index_or list e 0 ≡ j → slice_index_or before j 0 + times list j < n
    → AreCounted (take e list) before counts → slice_index_or counts j 0 + 1 < n
room_for_one {e} {j} list inside is room f = omega (arith, f.each j, times_more list e j inside is, times_part list (e + 1) j)

module _ {lists : List (List ℕ)} {n : ℕ} {counts : List ℕ} (f : AreCounts lists n counts) where
  -- a list is counted
  pub counts_more : {after : List ℕ} → AreCounted (row lists n) counts after → AreCounts lists (n + 1) after
  counts_more {after} step = record {
    one_each = step.one_each ∙ f.one_each;
    each = λ j g. let same : n + 1 ≡ suc n = omega arith in rw same (omega (arith, step.each j, f.each j g, below_suc lists j (λ _. true) n));
  }

  -- no count is greater than the number of lists
  pub counts_room : ((i j : ℕ) → times (row lists i) j ≤ 1) → (j : ℕ) → slice_index_or counts j 0 ≤ n
  counts_room once j = elim (lt_or_le j (length lists)) [
    | inl inside ↦ omega (arith, f.each j inside, below_le lists j (λ _. true) n (λ i. once i j))
    | inr past ↦ omega (arith, get_or_past counts j 0 (omega (arith, f.one_each)))
  ]

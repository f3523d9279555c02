-- The answer of `pairs`.
use Rattle.std.specs.Prelude.{◌≡◌, ◌↔◌, ℕ, Bool, IsTrue, if◌then◌else◌, List, [], ◌∷◌, ◌++◌, length, map, filter}
use Rattle.std.specs.List.{flat_map, range_with_len}
use Rattle.sm_agents.specs.Written.{Written, row, entry}
use Rattle.sm_report.specs.Heads.{HeadData}
use Rattle.sm_report.specs.Lines.{LineData}
use Rattle.sm_answer_pairs.specs.Partners.{IsStablePlace, IsFixedPlace}

-- a pair that is in every stable matching, or in some and not in all
abbrev pub partner_line : Bool → (p r : ℕ) → LineData
partner_line fixed p r = if fixed then LineData.AllPair p r else LineData.SomePair p r

-- the stable pairs of p, along its list, each with whether it is fixed
abbrev pub partner_lines : Written → (is_stable is_fixed : ℕ → ℕ → Bool) → (p : ℕ) → List LineData
partner_lines w is_stable is_fixed p =
    map (λ i. partner_line (is_fixed p i) p (entry w.proposers p i)) (filter (is_stable p) (range_with_len 0 (length (row w.proposers p))))

-- the lines are the stable pairs, by proposer and along its list, each with whether it is fixed
-- (Gusfield and Irving 1989, section 2.3.3)
pub record IsPairsAnswer (w : Written) (answer : List LineData) : Type 0 where
  pub is_stable : (p i : ℕ) → Bool
  pub is_fixed : (p i : ℕ) → Bool
  pub stable : (p i : ℕ) → IsTrue (is_stable p i) ↔ IsStablePlace w p i
  pub fixed : (p i : ℕ) → IsStablePlace w p i → IsTrue (is_fixed p i) ↔ IsFixedPlace w p i
  pub shows : answer ≡ LineData.Answer HeadData.Pairs
      ∷ (flat_map (partner_lines w is_stable is_fixed) (range_with_len 0 (length w.proposers)) ++ LineData.End ∷ [])

-- The answers for the two groups of persons whose partitions are known.
use Rattle.std.specs.Prelude.{◌≡◌, ℕ, List, [], ◌∷◌, None}
use Rattle.sm_report.specs.Heads.{HeadData}
use Rattle.sm_report.specs.Lines.{LineData}
use Rattle.sm_theory.specs.WitnessesRooms.{odd_party_rows, even_party_mates}
use Rattle.sm_answer_roommates.specs.RoomAnswer.{AreExcluding, couple_lines, party_lines}

-- 0, 1 and 2 are a party, and 3 and 4 are alone
abbrev pub odd_parties : List (List ℕ)
odd_parties = (0 ∷ 1 ∷ 2 ∷ []) ∷ (3 ∷ []) ∷ (4 ∷ []) ∷ []

-- they exclude stable matchings, and the answer has a line for each
abbrev pub OddPartiesShown : Type 0
OddPartiesShown = AreExcluding odd_party_rows odd_parties
    × (party_lines odd_parties
    ≡ LineData.Answer (HeadData.Solve None) ∷ LineData.Nothing ∷ LineData.Party (0 ∷ 1 ∷ 2 ∷ []) ∷ LineData.Party (3 ∷ []) ∷ LineData.Party (4 ∷ []) ∷ LineData.End ∷ [])

-- each couple stands once, and 4, who is alone, has no line
abbrev pub CouplesShown : Type 0
CouplesShown = couple_lines even_party_mates ≡ LineData.Answer (HeadData.Solve None) ∷ LineData.Pair 0 1 ∷ LineData.Pair 2 3 ∷ LineData.End ∷ []

-- Lines that are alike but for the order of those of one keyword.
use Rattle.std.specs.Prelude.{◌≡◌, Bool, true, false, List, [], ◌∷◌, map, IsPermutation}
use Rattle.sm_report.specs.Lines.{LineData}
use Rattle.sm_report.specs.declared.keywords.Keyword.{Keyword}
use Rattle.sm_report.specs.declared.keywords.Keyword.TheVariants as keyword
use Rattle.sm_report.specs.Keywords.{keyword_of}

-- lines of which the order says nothing: pairs, seats, lists, parties and flows. Vectors rise, and rotations are numbered.
abbrev pub is_free : Keyword → Bool
is_free keyword.Pair = true
is_free keyword.Left = true
is_free keyword.Right = true
is_free keyword.First = true
is_free keyword.Last = true
is_free keyword.Proposer = true
is_free keyword.Reviewer = true
is_free keyword.Party = true
is_free keyword.Flow = true
is_free keyword.SecondFlow = true
is_free _ = false

-- neighbours with one such keyword are exchanged, one pair after another
pub data IsReordered : List LineData → List LineData → Type 0 where
  none : IsReordered [] []
  kept : {lines others : List LineData} (line : LineData) → IsReordered lines others → IsReordered (line ∷ lines) (line ∷ others)
  exchanged : (x y : LineData) (lines : List LineData) → keyword_of x ≡ keyword_of y → is_free (keyword_of x) ≡ true → IsReordered (x ∷ y ∷ lines) (y ∷ x ∷ lines)
  both : {lines middle others : List LineData} → IsReordered lines middle → IsReordered middle others → IsReordered lines others

-- the lines are those of a right answer, but for their order
pub record IsRightButForOrder (is_right : List LineData → Type 0) (lines : List LineData) : Type 0 where
  pub answer : List LineData
  pub right : is_right answer
  pub reordered : IsReordered lines answer

-- reordered lines are the same ones, and those of each keyword stand where they stood
abbrev pub ReorderedIsPermuted : Type 0
ReorderedIsPermuted = (lines others : List LineData) → IsReordered lines others → IsPermutation lines others × (map keyword_of lines ≡ map keyword_of others)

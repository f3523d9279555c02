-- What is left of a layout, as it is kept: by keywords, each of which stands for its word.
use Rattle.std.specs.Prelude.{◌≡◌, ℕ, ◌+◌, ◌<◌, ◌≤◌, if◌then◌else◌, List, [], ◌∷◌, ◌++◌, drop, length, map, All, None, Some, slice_index_or}
use Rattle.sm_report.specs.declared.keywords.Keyword.TheVariants as keyword
use Rattle.sm_check_forms.specs.declared.layouts.LayoutPart.{LayoutPart}
use Rattle.sm_check_forms.specs.declared.layouts.LayoutPart.TheVariants as part
use Rattle.sm_check_forms.specs.declared.layouts.BlockTurn.{BlockTurn}
use Rattle.sm_check_forms.specs.declared.layouts.Opening.{Opening}
use Rattle.sm_check_forms.specs.declared.layouts.Layout.{Layout}
use Rattle.sm_check_forms.specs.declared.layouts.Places.{Places}
use Rattle.sm_check_forms.specs.declared.layouts.Fit.{Fit}
use Rattle.sm_check_forms.specs.declared.layouts.Fit.TheVariants as fit
use Rattle.sm_check_forms.specs.Layouts.{OpeningData, Part, behind, later}
use Rattle.sm_check_forms.specs.Layouts.Part.{One, Many, Blocks}
use Rattle.sm_check_forms.specs.Keywords.{word_of}

-- a part of a layout, by words
abbrev pub part_of : LayoutPart → Part
part_of (part.One keyword) = One (word_of keyword)
part_of (part.Many keyword) = Many (word_of keyword)
part_of (part.Blocks turn) = Blocks turn

-- several parts
abbrev pub parts_of : List LayoutPart → List Part
parts_of parts = map part_of parts

-- how a line begins, by words
abbrev pub opening_by : Opening → OpeningData
opening_by line = record { word = word_of line.keyword; number = line.number }

-- what is left of a part that takes a line, with the parts behind it
abbrev pub parts_left : Part → List Part → List Part
parts_left (One word) parts = parts
parts_left (Many word) parts = Many word ∷ parts
parts_left (Blocks turn) parts = Blocks (later turn) ∷ parts

-- the number of a line of a block is that of the block
abbrev pub HasBlockNumber : Part → ℕ → Type 0
HasBlockNumber (One word) number = Unit {0}
HasBlockNumber (Many word) number = Unit {0}
HasBlockNumber (Blocks turn) number = number ≡ turn.number

-- a part takes a line, whatever stands behind it
pub record TakesIt (one : Part) (line : OpeningData) : Type 0 where
  pub left : (parts : List Part) → behind (one ∷ parts) line ≡ Some (parts_left one parts)
  pub number : HasBlockNumber one line.number

-- what a part does with a line
abbrev pub IsFit : Part → OpeningData → Fit → Type 0
IsFit one line fit.Takes = TakesIt one line
IsFit one line fit.Passes = (parts : List Part) → behind (one ∷ parts) line ≡ behind parts line
IsFit one line fit.Ends = (parts : List Part) → behind (one ∷ parts) line ≡ None

-- the part at a place
abbrev pub part_at : List LayoutPart → ℕ → LayoutPart
part_at parts at = slice_index_or parts at (part.One keyword.Answer)

-- of the parts from a place on, the one at this place takes a line
pub record IsTakenAt (parts : List LayoutPart) (from : ℕ) (line : OpeningData) (at : ℕ) : Type 0 where
  pub within : at < length parts
  pub left : behind (parts_of (drop from parts)) line ≡ Some (parts_left (part_of (part_at parts at)) (parts_of (drop (at + 1) parts)))
  pub number : HasBlockNumber (part_of (part_at parts at)) line.number

-- a place in a block of few lines
pub record IsTurn (turn : BlockTurn) : Type 0 where
  pub within : turn.place < turn.lines
  pub few : turn.lines ≤ 4

-- if a part is of blocks, its turn is one of a block
abbrev pub IsTurnPart : LayoutPart → Type 0
IsTurnPart (part.One word) = Unit {0}
IsTurnPart (part.Many word) = Unit {0}
IsTurnPart (part.Blocks turn) = IsTurn turn

-- so it is of all parts
abbrev pub AreTurns : List LayoutPart → Type 0
AreTurns parts = All IsTurnPart parts

-- the place in a layout is among its parts or just past them, and its blocks have their turns
pub record IsRunning (layout : Layout) : Type 0 where
  pub within : layout.at ≤ length layout.parts.items
  pub turns : AreTurns layout.parts.items

-- what is left of a layout, where the lines fit
abbrev pub layout_left : Layout → List (List Part)
layout_left layout = if layout.fits then parts_of (drop layout.at layout.parts.items) ∷ [] else []

-- what is left of both layouts
abbrev pub layouts_left : Places → List (List Part)
layouts_left places = layout_left places.one ++ layout_left places.other

-- so it is of both layouts
pub record AreRunning (places : Places) : Type 0 where
  pub one : IsRunning places.one
  pub other : IsRunning places.other

-- The lines of an input.
use Rattle.std.specs.Prelude.{◌≡◌, ℕ, ◌+◌, ◌<◌, ◌==◌, if◌then◌else◌, List, [], ◌∷◌, length, map, drop}
use Rattle.std.specs.List.{onto_first}
use Rattle.sm_text.specs.declared.lines.LineSpan.{LineSpan}

-- a line's end is LF, with one CR before it where there is one
abbrev pub LF : ℕ
LF = 10

-- the byte that may stand before LF
abbrev pub CR : ℕ
CR = 13

-- the first line of an input with its end: all up to the first LF and with it, or all of an input that has none
abbrev pub first_line : List ℕ → List ℕ
first_line [] = []
first_line (b ∷ bytes) = if b == LF then b ∷ [] else (b ∷ first_line bytes)

-- a list without its last item, where that is x
abbrev pub without_last : ℕ → List ℕ → List ℕ
without_last x [] = []
without_last x (b ∷ []) = if b == x then [] else (b ∷ [])
without_last x (b ∷ c ∷ rest) = b ∷ without_last x (c ∷ rest)

-- what a line holds: the line without its end. The CR belongs to the end also in a last line that has no LF.
abbrev pub content : List ℕ → List ℕ
content line = without_last CR (without_last LF line)

-- the lines of an input, each with its end
abbrev pub lines : List ℕ → List (List ℕ)
lines [] = []
lines (b ∷ bytes) = if b == LF then (b ∷ []) ∷ lines bytes else onto_first b (lines bytes)

-- what stands on the lines from a place on, without their ends
abbrev pub texts_from : List ℕ → ℕ → List (List ℕ)
texts_from bytes from = map content (lines (drop from bytes))

-- the span is that of the line that begins at a place of an input: of the first line from there on, behind which stand those
-- from the next place on
pub record IsLineAt (bytes : List ℕ) (from : ℕ) (span : LineSpan) : Type 0 where
  pub within : from < length bytes
  pub start : span.start ≡ from
  pub stop : span.stop ≡ from + length (content (first_line (drop from bytes)))
  pub next : span.next ≡ from + length (first_line (drop from bytes))
  pub leads : lines (drop from bytes) ≡ first_line (drop from bytes) ∷ lines (drop span.next bytes)

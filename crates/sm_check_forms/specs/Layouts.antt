-- Layouts: which lines of an answer follow which. A line is known by its first word, and by the number of a rotation behind that.
-- A layout is a list of parts: one line, any number of lines with one word, or any number of blocks of lines.
use Rattle.std.specs.Prelude.{ℕ, ◌+◌, ◌==◌, Bool, true, false, if◌then◌else◌, List, [], ◌∷◌, Option, None, Some, filter_map, codes}
use Rattle.std.specs.List.{list_any}
use Rattle.std.specs.Str.{bytes_eq}
use Rattle.sm_check_forms.specs.declared.layouts.BlockTurn.{BlockTurn}

-- how a line begins: its first word, and the number of a rotation behind that, 0 where there is none
pub record OpeningData : Type 0 where
  pub word : List ℕ
  pub number : ℕ

-- lines that stand together in a layout: one with this word, any number of them, or any number of blocks
pub data Part : Type 0 where
  One : List ℕ → Part
  Many : List ℕ → Part
  Blocks : BlockTurn → Part

-- a line begins with a word
abbrev pub begins : OpeningData → List ℕ → Bool
begins line word = bytes_eq line.word word

-- the words of a block of two, three or four lines, by their places in it
abbrev pub word_at : ℕ → List ℕ
word_at place =
    if place == 0 then codes "rotation"
    else (if place == 1 then codes "needs" else (if place == 2 then codes "gain" else codes "gain2"))

-- whose turn it is behind a line of a block: that of its next line, or of the first one of the block with the next number
abbrev pub later : BlockTurn → BlockTurn
later turn =
    if turn.place + 1 == turn.lines
    then record { lines = turn.lines; place = 0; number = turn.number + 1 }
    else record { lines = turn.lines; place = turn.place + 1; number = turn.number }

-- what is left of a layout behind a line, if the line fits there. No block is broken off.
abbrev pub behind : List Part → OpeningData → Option (List Part)
behind [] line = None
behind (One word ∷ parts) line = if begins line word then Some parts else None
behind (Many word ∷ parts) line = if begins line word then Some (Many word ∷ parts) else behind parts line
behind (Blocks turn ∷ parts) line =
    if begins line (word_at turn.place)
    then (if line.number == turn.number then Some (Blocks (later turn) ∷ parts) else None)
    else (if turn.place == 0 then behind parts line else None)

-- of several layouts those that are left behind some lines
abbrev pub left_behind : List (List Part) → List OpeningData → List (List Part)
left_behind layouts [] = layouts
left_behind layouts (line ∷ lines) = left_behind (filter_map (λ parts. behind parts line) layouts) lines

-- there is nothing in a list
abbrev pub is_empty : {X : Type 0} → List X → Bool
is_empty [] = true
is_empty (x ∷ xs) = false

-- the lines are the first of an answer in one of the layouts; and they are a whole one
abbrev pub is_begun : List (List Part) → List OpeningData → Bool
is_begun layouts lines = if is_empty (left_behind layouts lines) then false else true

-- the lines are a whole answer in one of the layouts
abbrev pub is_whole : List (List Part) → List OpeningData → Bool
is_whole layouts lines = list_any is_empty (left_behind layouts lines)

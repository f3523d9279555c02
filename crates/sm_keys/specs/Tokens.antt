-- The lines of a text, and what their tokens are.
use Rattle.std.specs.Prelude.{◌||◌, nat_le, ◌≡◌, ℕ, Bool, false, not, List, [], ◌∷◌, length, drop, ◌+◌}
use Rattle.std.specs.List.{list_all}
use Rattle.sm_text.specs.Lines.{lines, first_line, content}
use Rattle.sm_text.specs.Name.{is_name, is_name_byte}
use Rattle.sm_text.specs.Tokens.{is_mark}

-- a token that is a byte which no line of an instance holds outside of a comment
unfoldable pub is_bad : List ℕ → Bool
is_bad [] = false
is_bad (b ∷ _) = not (is_name_byte b || is_mark b)

-- the last so many of the tokens are names, and no more: those behind the first k are where they are no more than that
pub record AreNamesAtEnd (names : ℕ) (tokens : List (List ℕ)) : Type 0 where
  pub are : (k : ℕ) → list_all is_name (drop k tokens) ≡ nat_le (length (drop k tokens)) names

-- a line holds this text and is the first of those from a place on; behind it those from the next place on stand
pub record LeadsLines (bytes : List ℕ) (from : ℕ) (text : List ℕ) (next : ℕ) : Type 0 where
  pub leads : lines (drop from bytes) ≡ first_line (drop from bytes) ∷ lines (drop next bytes)
  pub holds : text ≡ content (first_line (drop from bytes))
  pub long : next ≡ from + length (first_line (drop from bytes))

-- The tokens of a line.
use Rattle.std.specs.Prelude.{ℕ, ◌+◌, ◌-◌, ◌<◌, ◌≤◌, ◌==◌, ◌&&◌, ◌||◌, ◌≡◌, Bool, false, if◌then◌else◌, List, [], ◌∷◌, length, take, drop}
use Rattle.std.specs.List.{onto_first, prefix_len}
use Rattle.sm_text.specs.Name.{is_name_byte}
use Rattle.sm_text.specs.declared.tokens.TokenAt.{TokenAt}
use Rattle.sm_text.specs.declared.tokens.TokenAt.TheVariants.{Run, Mark, Bad, Over}

-- `#`, from which on a line is a comment
abbrev pub HASH : ℕ
HASH = 35

-- a space or a TAB: what may stand between tokens
unfoldable pub is_blank : ℕ → Bool
is_blank b = b == 32 || b == 9

-- `:`, `[` or `]`: what is a token by itself
unfoldable pub is_mark : ℕ → Bool
is_mark b = b == 58 || b == 91 || b == 93

-- a name byte stands first
abbrev pub begins_run : List ℕ → Bool
begins_run [] = false
begins_run (b ∷ _) = is_name_byte b

-- the tokens of a line, each as its bytes: a longest run of name bytes, or any other byte that is no blank. A comment has none.
abbrev pub tokens : List ℕ → List (List ℕ)
tokens [] = []
tokens (b ∷ line) =
    if b == HASH then [] else
    (if is_blank b then tokens line else
    (if is_name_byte b && begins_run line then onto_first b (tokens line) else
    ((b ∷ []) ∷ tokens line)))

-- where the blanks end that begin at a place of a line, and where the run does
abbrev pub blanks_end : List ℕ → ℕ → ℕ
blanks_end line from = from + prefix_len is_blank (drop from line)

-- where the run of name bytes that begins at a place ends
abbrev pub run_end : List ℕ → ℕ → ℕ
run_end line from = from + prefix_len is_name_byte (drop from line)

-- what the rest of a line begins with, where the rest stands at a place of the line and begins with no blank
abbrev pub first_token : List ℕ → ℕ → List ℕ → TokenAt
first_token line at [] = Over
first_token line at (b ∷ _) =
    if b == HASH then Over else
    (if is_name_byte b then Run at (run_end line at) else
    (if is_mark b then Mark at else Bad at))

-- the first token at or behind a place of a line
abbrev pub token_at : List ℕ → ℕ → TokenAt
token_at line from = let at = blanks_end line from in first_token line at (drop at line)

-- a token stands at places of a line at or behind a place, and the tokens from there on are it and those from its end on
pub record IsLeading (line : List ℕ) (from start stop : ℕ) : Type 0 where
  pub behind : from ≤ start
  pub some : start < stop
  pub within : stop ≤ length line
  pub leads : tokens (drop from line) ≡ take (stop - start) (drop start line) ∷ tokens (drop stop line)

-- the tokens from a place on are the one that is first, and those behind it
abbrev pub LeadsTokens : List ℕ → ℕ → TokenAt → Type 0
LeadsTokens line from (Run start stop) = IsLeading line from start stop
LeadsTokens line from (Mark at) = IsLeading line from at (at + 1)
LeadsTokens line from (Bad at) = IsLeading line from at (at + 1)
LeadsTokens line from Over = tokens (drop from line) ≡ []

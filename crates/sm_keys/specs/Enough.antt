-- Tokens of a line that are enough to judge it.
use Rattle.std.specs.Prelude.{◌≡◌, ℕ, ◌<◌, ◌≤◌, Bool, false, List, [], length, take, drop, slice_index_or}
use Rattle.std.specs.List.{list_all}
use Rattle.sm_keys.specs.Tables.{has_repeated}

-- a line whose tokens are more than so many has a list, which begins before their end if it has a form
abbrev pub first_tokens : ℕ
first_tokens = 10

-- Tokens that were kept are enough of all tokens of a line: the first ones are the same. All others pass a test where all those do
-- that were kept, and one comes twice among them where one does among those. Where none does, all tokens were kept.
pub record AreEnough (kept all : List (List ℕ)) : Type 0 where
  pub first : take first_tokens kept ≡ take first_tokens all
  pub tests : (test : List ℕ → Bool) → list_all test (drop first_tokens kept) ≡ list_all test (drop first_tokens all)
  pub repeated : has_repeated (drop first_tokens kept) ≡ has_repeated (drop first_tokens all)
  pub whole : has_repeated (drop first_tokens kept) ≡ false → kept ≡ all

-- a token stands at two places among others, behind the first ones
pub record StandsTwice (others : List (List ℕ)) (token : List ℕ) (first second : ℕ) : Type 0 where
  pub behind : first_tokens ≤ first
  pub later : first < second
  pub within : second < length others
  pub there : slice_index_or others first [] ≡ token
  pub again : slice_index_or others second [] ≡ token

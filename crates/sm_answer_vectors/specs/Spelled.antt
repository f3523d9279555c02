-- The text of a vector that is kept from one vector to the next.
use Rattle.std.specs.Prelude.{◌≡◌, ℕ, ◌+◌, ◌≤◌, List, [], ◌∷◌, ◌++◌, length, take, slice_index, decimal}
use Rattle.std.specs.List.{flat_map}
use Rattle.sm_answer_vectors.specs.declared.vector_text.VectorText.{VectorText}

-- numbers in decimal, each with a comma behind it
abbrev pub spelled : List ℕ → List ℕ
spelled numbers = flat_map (λ n. decimal n ++ 44 ∷ []) numbers

-- a text is that of these numbers, the text of each begins where it is noted, and that of the last one ends at the last place noted
pub record IsSpelled (numbers text starts : List ℕ) : Type 0 where
  pub text_is : text ≡ spelled numbers
  pub start_each : length starts ≡ length numbers + 1
  pub starts_are : (i : ℕ) → i ≤ length numbers → slice_index starts i ≡ length (spelled (take i numbers))

-- the kept text is that of the kept numbers
abbrev pub IsKept : VectorText → Type 0
IsKept t = IsSpelled t.shown.items t.text.items t.starts.items

-- Vectors read from their texts.
use Rattle.std.specs.Prelude.{ℕ, ◌==◌, Bool, if◌then◌else◌, List, [], ◌∷◌, codes, Option, Some, option_map}
use Rattle.std.specs.List.{slice_split}
use Rattle.std.specs.Option.{option_and_then}
use Rattle.std.specs.Str.{bytes_eq}
use Rattle.sm_text.specs.Numbers.{number_of}

-- what each of these texts spells, if each spells something
abbrev pub each_in : {X : Type 0} → (List ℕ → Option X) → List (List ℕ) → Option (List X)
each_in read [] = Some []
each_in read (text ∷ more) = option_and_then (λ x. option_map (λ xs. x ∷ xs) (each_in read more)) (read text)

-- the greatest number in a vector
abbrev pub most_in_vector : ℕ
most_in_vector = 4294967295

-- what stands between commas
abbrev pub is_comma : ℕ → Bool
is_comma b = b == 44

-- the numbers that these texts spell, if each spells one
abbrev pub numbers_in : List (List ℕ) → Option (List ℕ)
numbers_in texts = each_in (λ text. number_of text most_in_vector) texts

-- the vector that a text spells: `-` is the one without numbers, and else there is one comma between each two of its numbers
abbrev pub vector_in : List ℕ → Option (List ℕ)
vector_in text = if bytes_eq text (codes "-") then Some [] else numbers_in (slice_split is_comma text)

-- Keywords, by which the code knows words. Only contracts within the crate speak of them.
use Rattle.std.specs.Prelude.{ℕ, Bool, if◌then◌else◌, List, [], ◌∷◌}
use denote.Enum.Bare.{sameb}
use Rattle.sm_report.specs.declared.keywords.Keyword.{Keyword}
use Rattle.sm_report.specs.contracts.keywords.Keyword.{the_type}
use Rattle.sm_report.specs.Meanings.{keywords}

-- whether two keywords are one, as the comparison says that the type derives
abbrev pub is_same : Keyword → Keyword → Bool
is_same a b = sameb the_type a b

-- the word beside a keyword
abbrev pub word_in : List (List ℕ × Keyword) → Keyword → List ℕ
word_in [] keyword = []
word_in (row ∷ rows) keyword = if is_same keyword row.1 then row.0 else word_in rows keyword

-- the word of a keyword, by the table with which lines are read
unfoldable pub word_of : Keyword → List ℕ
word_of keyword = word_in keywords keyword

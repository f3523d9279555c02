-- What is said by some lines and the next one.
use Rattle.std.proofs.Common.{◌≡◌, ℕ, ◌+◌, ◌<◌, ◌++◌, ◌∷◌, [], ◌∙◌, refl, ap, sym, append-nil, List, length, map, take, get_or, Option, None, Some, Vec, Global}
use Rattle.std.specs.Prelude.{filter_map}
use Rattle.std.specs.List.{cons_option}
use Rattle.std.proofs.lemmas.List.{map_more}
use Rattle.std.proofs.lemmas.List.Elements.{filter_map-append}
use Rattle.sm_report.specs.declared.lines.Line.{Line}
use Rattle.sm_report.specs.Lines.{LineData, line_of}
use Rattle.sm_check_clauses.specs.Said.{needs_in}

module _ {X : Type 0} (said : LineData → Option X) (lines : List Line) (i : ℕ) (x : Line) (inside : i < length lines) (is : x ≡ get_or lines i x) where
  said_next : filter_map said (map line_of (take (i + 1) lines)) ≡ filter_map said (map line_of (take i lines)) ++ cons_option (said (line_of x)) []
  said_next =
      ap (filter_map said) (map_more line_of lines i x inside ∙ ap (λ (y : Line). map line_of (take i lines) ++ line_of y ∷ []) (sym is))
      ∙ filter_map-append said (map line_of (take i lines)) (line_of x ∷ [])

  -- a line that says nothing of the kind, and one that does
  pub next_unsaid : said (line_of x) ≡ None → filter_map said (map line_of (take (i + 1) lines)) ≡ filter_map said (map line_of (take i lines))
  next_unsaid none = said_next ∙ ap (λ (o : Option X). filter_map said (map line_of (take i lines)) ++ cons_option o []) none ∙ append-nil (filter_map said (map line_of (take i lines)))

  -- one that does says one thing more
  pub next_said : (y : X) → said (line_of x) ≡ Some y → filter_map said (map line_of (take (i + 1) lines)) ≡ filter_map said (map line_of (take i lines)) ++ y ∷ []
  next_said y one = said_next ∙ ap (λ (o : Option X). filter_map said (map line_of (take i lines)) ++ cons_option o []) one

-- lines that say nothing of needs, and of a flow
pub needs_in-none : (x : Line) → ((i : ℕ) (needed : Vec ℕ Global) → x ≡ Line.Needs i needed → ⊥) → needs_in (line_of x) ≡ None
needs_in-none (Line.Needs i needed) a = absurd (a i needed refl)
needs_in-none _ a = refl

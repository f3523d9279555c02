use Rattle.std.proofs.Common.{◌∙◌, ap, ◌++◌, [], ◌∷◌, List, ℕ}
use Rattle.sm_text.specs.Lines.{LF}
use Rattle.sm_top.proofs.exporting.export.Goals as goal

pub returns : goal.returns
returns g c = c.put_line.ensures _ (c.deref.ensures.value ∙ c.in_ok-extend_from_slice.ensures.items ∙ ap (λ (t : List ℕ). t ++ LF ∷ []) c.in_ok-text.ensures.json)

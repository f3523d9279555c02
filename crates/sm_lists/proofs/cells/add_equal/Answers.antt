use Rattle.std.proofs.Common.{ℕ, ◌++◌, Option, unwrap_or, replicate, ap, ◌∙◌}
use Rattle.std.proofs.lemmas.List.{map-append}
use Rattle.sm_lists.specs.Places.{places_in}
use Rattle.sm_lists.proofs.SpanLemmas.{resized_is, map_replicate}
use Rattle.sm_lists.proofs.cells.add_equal.Goals as goal

pub returns-clause-added : goal.returns-clause-added
returns-clause-added c =
    let f : Option ℕ → ℕ = λ o. unwrap_or o 0 in
    let cells = c.args.cells.now in
    ap places_in (c.in_ok-resize.ensures.items ∙ resized_is cells c.len-before.result c.args.count c.of.result c.len-before.ensures)
    ∙ map-append f cells.items (replicate c.args.count c.of.result)
    ∙ ap (λ t. places_in cells.items ++ t) (map_replicate f c.of.result c.args.count ∙ ap (λ o. replicate c.args.count (f o)) c.of.ensures)

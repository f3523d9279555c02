use Rattle.std.proofs.Common.{map, ap, ◌∙◌}
use Rattle.sm_lists.specs.Places.{places_in}
use Rattle.sm_lists.proofs.SpanLemmas.{places_in_spans}
use Rattle.sm_lists.proofs.raised_rows.RaisedRows.of_crosses.Goals as goal

pub returns : goal.returns
returns c = rw (c.of_cells.ensures, c.of_crosses.ensures)
    (places_in_spans c.in_ok-places.places.items c.in_ok-places.spans.items ∙ ap (map places_in) c.in_ok-places.ensures.lists)

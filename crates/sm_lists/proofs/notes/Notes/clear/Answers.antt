use Rattle.std.proofs.Common.{◌+◌, ℕ, List, Option, None, replicate, ap, sym, ◌∙◌}
use Rattle.std.proofs.lemmas.List.{length-map}
use Rattle.sm_lists.specs.Kept.{noted_in}
use Rattle.sm_lists.proofs.NoteLemmas.{map-noted_in_earlier}
use Rattle.sm_lists.proofs.notes.Notes.clear.Goals as goal

pub returns : goal.returns
returns c =
    let round = c.self.inside.round in
    let notes = c.self.inside.notes.items in
    rw (← c.self.view_is)
    (ap (λ (places : List (Option ℕ)). record { rounds = round + 1; places = places })
    (map-noted_in_earlier round notes c.self.invariant.1 ∙ ap (λ n. replicate n None) (sym (length-map notes (noted_in round)))))

use Rattle.std.proofs.Common.{ℕ, List, Option, ap, arith}
use Rattle.sm_lists.proofs.NoteLemmas.{map-noted_in_replicate}
use Rattle.sm_lists.proofs.notes.Notes.new.Goals as goal

pub returns : goal.returns
returns c =
    rw (c.in_ok-notes.ensures.items_if_clones_equal (λ y e. e))
    (ap (λ (places : List (Option ℕ)). record { rounds = 1; places = places }) (map-noted_in_replicate 1 c.args.agents (record { stamp = 0; place = 0 }) (λ e. omega arith)))

use Rattle.std.proofs.Common.{◌≡◌, length, sym, ◌∙◌}
use Rattle.sm_room.proofs.PairLemmas.{lowest_in_odd, pairs_of_others}
use Rattle.sm_room.proofs.parties.Partition.odd_party.Goals as goal

pub returns : goal.returns
returns c = rw (← c.self.view_is)
    (λ rows h.
    let kept = c.self.invariant in
    let same : length kept.rows ≡ length rows = sym kept.partition.one_each ∙ h.one_each in
    lowest_in_odd h (pairs_of_others same kept.pairs.alternately) c.first_left_out.result (rw (c.deref.ensures.value, c.deref-2.ensures.value) at c.first_left_out.ensures))

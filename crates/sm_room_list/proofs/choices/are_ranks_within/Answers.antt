use Rattle.std.proofs.Common.{arith}
use Rattle.sm_room_list.proofs.ChoiceLemmas.{chosen_within}
use Rattle.sm_room_list.proofs.choices.are_ranks_within.Goals as goal

pub returns : goal.returns
returns c =
    let p = c.persons-x-end.ensures in let count = p.count in
    λ _. chosen_within p.lists (λ x inside. (c.loop-x.invariant x (omega arith)).0) c.requires.one_each (λ x inside. (c.loop-x.invariant x (omega arith)).1)

use Rattle.sm_room_list.specs.Choices.{AreChoices}
use Rattle.sm_room_list.proofs.choices.chosen.Given as goal

abbrev pub invariant-loop-x : goal.invariant-loop-x
invariant-loop-x l = AreChoices l.market l.choices.ranks.items l.choices.met.items l.choices.waiting.items

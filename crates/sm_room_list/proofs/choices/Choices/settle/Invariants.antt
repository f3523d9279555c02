use Rattle.sm_room_list.specs.Choices.{AreChoices}
use Rattle.sm_room_list.proofs.choices.Choices.settle.Given as goal

abbrev pub invariant-turns : goal.invariant-turns
invariant-turns l = AreChoices l.market l.self.ranks.items l.self.met.items l.self.waiting.items

use Rattle.sm_room_list.specs.Choices.{AreChoices}
use Rattle.sm_room_list.proofs.choices.Choices.meet_all.Given as goal

abbrev pub invariant-loop-place : goal.invariant-loop-place
invariant-loop-place l = AreChoices l.market l.self.ranks.items l.self.met.items l.self.waiting.items

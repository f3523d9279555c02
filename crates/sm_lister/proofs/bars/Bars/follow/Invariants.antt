use Rattle.std.proofs.Common.{◌≡◌, ℕ, ◌-◌, ◌<◌, ◌≤◌, List, Bool, length, slice_index}
use Rattle.sm_theory.specs.ClosedSets.{IsMember}
use Rattle.sm_board.specs.Board.{IsClosedIn}
use Rattle.sm_lister.specs.Barred.{HasRoom, LeadTo}
use Rattle.sm_lister.proofs.bars.Bars.follow.Given as goal

abbrev pub invariant-needs : goal.invariant-needs
invariant-needs l = record {
  room : HasRoom l.course l.self;
  more : l.start ≤ l.self.count;
  few : l.self.count ≤ length l.course.board.needs;
  front : (k : ℕ) → k < l.start → slice_index l.self.looked.items k ≡ slice_index l.initial.self.looked.items k;
  same : l.self.positions ≡ l.initial.self.positions;
  number : l.now < length l.course.board.needs;
  fresh : IsMember l.held.set l.now → ⊥;
  leads : LeadTo l.course.board l.self.looked.items l.start l.self.count l.now;
  here : (D : List Bool) → IsClosedIn l.course.board D → IsMember D l.x → IsMember D l.now;
}

abbrev pub decreases-needs : goal.decreases-needs
decreases-needs l = length l.course.board.needs - l.self.count

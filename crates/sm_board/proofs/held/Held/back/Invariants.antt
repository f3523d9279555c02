use Rattle.std.proofs.Common.{◌≡◌, ◌≤◌, take, length}
use Rattle.sm_board.specs.Courses.{IsHeld}
use Rattle.sm_board.proofs.held.Held.back.Given as goal

abbrev pub invariant-loop-self : goal.invariant-loop-self
invariant-loop-self l = record {
  held : IsHeld l.board l.self;
  some : l.count ≤ length l.self.log;
  front : take l.count l.self.log ≡ take l.count l.initial.self.log;
}

abbrev pub decreases-loop-self : goal.decreases-loop-self
decreases-loop-self l = length l.self.log

use Rattle.std.proofs.Common.{◌-◌, ◌≡◌, ◌≤◌}
use Rattle.sm_answer.specs.Lines.{lines_from}
use Rattle.sm_answer.proofs.answer.EachAnswer.next.Given as goal

-- the lines that are left are those that were left
abbrev pub invariant-items : goal.invariant-items
invariant-items g l = record {
  items : l.self.items ≡ l.initial.self.items;
  on : l.initial.self.next ≤ l.self.next;
  left : lines_from (g.T.Numbered.line l.self.items) l.self.next (g.T.Numbered.count l.self.items - l.self.next)
      ≡ lines_from (g.T.Numbered.line l.self.items) l.initial.self.next (g.T.Numbered.count l.self.items - l.initial.self.next);
}

abbrev pub decreases-items : goal.decreases-items
decreases-items g l = g.T.Numbered.count l.self.items - l.self.next

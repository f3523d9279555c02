use Rattle.std.proofs.Common.{◌∙◌, sym, arith}
use Rattle.sm_answer.proofs.AnswerLemmas.{lines_from-suc}
use Rattle.sm_answer.proofs.answer.EachAnswer.next.Goals as goal

pub items-preserved : goal.items-preserved
items-preserved g c =
    let n = g.T.Numbered.count c.items.self.items in
    record {
      items = c.items.invariant.items;
      on = omega (arith, c.items.invariant.on);
      left = lines_from-suc (g.T.Numbered.line c.items.self.items) c.items.self.next n c.in_ok-line.line (omega (arith, c.items-test.true, c.count.ensures)) c.in_ok-line.ensures (sym c.is_some.ensures ∙ c.if-is_some.false) ∙ c.items.invariant.left;
    }

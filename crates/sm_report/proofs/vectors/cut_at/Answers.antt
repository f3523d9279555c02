use Rattle.std.proofs.Common.{◌==◌, sym, arith}
use Rattle.sm_report.proofs.VectorLemmas.{parts_cut, parts_last}
use Rattle.sm_report.proofs.vectors.cut_at.Goals as goal

pub returns-in-None-clause-parts : goal.returns-in-None-clause-parts
returns-in-None-clause-parts c = (parts_last (λ b. b == c.args.mark) c.args.text.now (sym c.in-None.ensures)).0

pub returns-in-None-clause-ends : goal.returns-in-None-clause-ends
returns-in-None-clause-ends c = (parts_last (λ b. b == c.args.mark) c.args.text.now (sym c.in-None.ensures)).1

pub returns-in-Some-clause-parts : goal.returns-in-Some-clause-parts
returns-in-Some-clause-parts c = let h = parts_cut (λ b. b == c.args.mark) c.args.text.now c.in-Some.at (sym c.in-Some.ensures) in (h.0, h.2)

pub returns-in-Some-clause-ends : goal.returns-in-Some-clause-ends
returns-in-Some-clause-ends c = let h = parts_cut (λ b. b == c.args.mark) c.args.text.now c.in-Some.at (sym c.in-Some.ensures) in (h.3, h.4)

pub overflow_add-result : goal.overflow_add-result
overflow_add-result c = let h = parts_cut (λ b. b == c.args.mark) c.args.text.now c.in-Some.at (sym c.in-Some.ensures) in omega (arith, h.1)

use Rattle.std.proofs.Common.{arith, sym}
use Rattle.std.proofs.lemmas.Bool.{eqb-true, eq-eqb}
use Rattle.sm_text.proofs.LineLemmas.{first_line_to, first_line_whole}
use Rattle.sm_text.proofs.lines.first_line.Goals as goal

pub returns-in-Some : goal.returns-in-Some
returns-in-Some c =
    let found = c.in-Some.ensures in
    sym (first_line_to c.args.bytes.now c.in-Some.at found.0.high (eqb-true _ _ found.1) (λ k l e. found.0.before k (omega arith) l (eq-eqb _ _ e)))

pub returns-in-None : goal.returns-in-None
returns-in-None c = sym (first_line_whole c.args.bytes.now (λ k l e. c.in-None.ensures k (omega arith) l (eq-eqb _ _ e)))

use Rattle.std.proofs.Common.{◌∙◌, map, sym}
use Rattle.std.proofs.lemmas.Result.{IfOk-weaker}
use Rattle.sm_report.specs.Lines.{line_of}
use Rattle.sm_cert.proofs.CheckLemmas.{by_parties, by_couples}
use Rattle.sm_cert.proofs.checking.judge_room.Goals as goal

pub returns-then-says_none : goal.returns-then-says_none
returns-then-says_none c =
    IfOk-weaker c.parties_verdict.result _ _
    (λ v judged. by_parties c.args.persons.now (map line_of c.args.lines.now) c.args.first_line v (sym c.says_none.ensures ∙ c.if-says_none.true) judged)
    c.parties_verdict.ensures

pub returns : goal.returns
returns c =
    IfOk-weaker c.couples_verdict.result _ _
    (λ v judged. by_couples c.args.persons.now (map line_of c.args.lines.now) c.args.first_line v (sym c.says_none.ensures ∙ c.if-says_none.false) judged)
    c.couples_verdict.ensures

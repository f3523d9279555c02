use Rattle.std.proofs.Common.{◌∙◌, ap, map, sym}
use Rattle.std.specs.Option.{option_map}
use Rattle.std.proofs.lemmas.Result.{IfOk-weaker}
use Rattle.sm_report.specs.Heads.{head_of}
use Rattle.sm_report.specs.Lines.{line_of}
use Rattle.sm_cert.proofs.CheckLemmas.{by_head}
use Rattle.sm_cert.proofs.checking.judge_two.Goals as goal

pub returns-in-Some : goal.returns-in-Some
returns-in-Some c =
    let head = sym c.head_in.ensures ∙ ap (option_map (λ head. head_of head.now)) c.in-Some.is in
    IfOk-weaker c.judge_head.result _ _
    (λ v judged. by_head c.args.instance.now (map line_of c.args.lines.now) (head_of c.in-Some.head.now) c.args.first_line v head judged)
    c.judge_head.ensures

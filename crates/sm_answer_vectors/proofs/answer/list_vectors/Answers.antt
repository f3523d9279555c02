use Rattle.std.proofs.Common.{ap, subst, IfSome, arith}
use Rattle.std.specs.List.{All}
use Rattle.sm_report.specs.Sound.{IsSmall}
use Rattle.sm_report.specs.Heads.{HeadData}
use Rattle.sm_report.specs.Lines.{LineData}
use Rattle.sm_answer_vectors.proofs.ListLemmas.{list_right, list_has_rest}
use Rattle.sm_answer_vectors.proofs.answer.list_vectors.Goals as goal

pub returns-clause-right : goal.returns-clause-right
returns-clause-right g c = λ lines left.
    list_right c.args.input.now c.args.limit _ c.requires.cursor (ap (λ after. LineData.Answer (HeadData.List after c.args.limit)) c.in_ok-after.ensures.copied) lines left.printed

pub returns-clause-some : goal.returns-clause-some
returns-clause-some g c =
    let h =
    list_has_rest c.args.input.now c.args.limit _ c.requires.next c.requires.small c.requires.cursor (ap (λ after. LineData.Answer (HeadData.List after c.args.limit)) c.in_ok-after.ensures.copied)
    (subst (λ after. IfSome after (All IsSmall)) c.in_ok-after.ensures.copied c.in_ok-after.ensures.small) c.requires.least c.requires.greatest in
    record { lines = h.lines; given = record { is_known = record { kept = c.in_ok-text.ensures.kept; reached = λ going none. absurd (omega (arith, none, c.requires.least)) }; printed = h.given } }

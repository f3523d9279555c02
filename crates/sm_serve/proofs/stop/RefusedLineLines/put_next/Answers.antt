use Rattle.sm_serve.specs.Texts.{with_detail, refusal_fields, refused_line}
use Rattle.sm_serve.proofs.StopLemmas.{line_said, detail_plain, detail_put}
use Rattle.sm_serve.proofs.stop.RefusedLineLines.put_next.Goals as goal

pub returns : goal.returns
returns c =
    let s = c.args.self.now in
    let fields = refusal_fields s.detail in
    line_said s.is_said (refused_line (with_detail s.kind s.at fields)) _ _ c.if-self.false
    (detail_plain s.kind s.at fields c.in_ok-put_refused.ensures.plain s.plain)
    (detail_put s.kind s.at fields _ _ _ c.in_ok-put_refused.ensures.put c.in_ok-put_fields.ensures)

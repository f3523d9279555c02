use Rattle.sm_serve.specs.Texts.{usage_line}
use Rattle.sm_serve.proofs.StopLemmas.{line_said}
use Rattle.sm_serve.proofs.stop.UsageLineLines.put_next.Goals as goal

pub returns : goal.returns
returns c =
    let s = c.args.self.now in
    line_said s.is_said (usage_line s.word) _ _ c.if-self.false c.in_ok-put_usage.ensures.plain c.in_ok-put_usage.ensures.put

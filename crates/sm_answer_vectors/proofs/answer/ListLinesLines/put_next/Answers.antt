use Rattle.std.proofs.Common.{◌∙◌, sym}
use Rattle.sm_answer_vectors.specs.Remaining.{most_lines}
use Rattle.sm_answer_vectors.proofs.PutLemmas.{head_printable, head_put, behind_put}
use Rattle.sm_answer_vectors.proofs.answer.ListLinesLines.put_next.Goals as goal

pub put_text-requires : goal.put_text-requires
put_text-requires g c = head_printable _ _ _ c.in-Some.line c.args.self.now.head (sym c.take.ensures.value ∙ c.in-Some.is) c.requires

pub returns-in_ok-put_text-in-Some : goal.returns-in_ok-put_text-in-Some
returns-in_ok-put_text-in-Some g c =
    let s = c.args.self.now in
    head_put _ _ s.input.now c.in-Some.line (most_lines s.vectors.over s.vectors.left) s.head c.take.new.self _ _ c.kind-kind.ensures.sound (sym c.take.ensures.value ∙ c.in-Some.is) c.take.ensures.after c.requires c.in_ok-put_text-in-Some.ensures.ok

pub returns-in-None : goal.returns-in-None
returns-in-None g c =
    let s = c.args.self.now in
    behind_put _ _ _ _ s.input.now _ _ s.head c.take.new.self _ _ c.put_next.result (sym c.take.ensures.value ∙ c.in-None.is) c.take.ensures.after c.requires c.put_next.ensures.ready c.put_next.ensures.put

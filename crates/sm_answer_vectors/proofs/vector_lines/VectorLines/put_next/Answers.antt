use Rattle.std.proofs.Common.{◌≡◌, ℕ, ◌+◌, ◌-◌, ◌++◌, ◌∙◌, List, ap, arith, codes}
use Rattle.sm_answer.proofs.AnswerLemmas.{line_put}
use Rattle.sm_report.specs.Lines.{LineData, line_of}
use Rattle.sm_report.specs.Texts.{vector_text}
use Rattle.sm_answer_vectors.proofs.RemainingLemmas.{last_given, end_given, vector_given, reached_next}
use Rattle.sm_answer_vectors.proofs.vector_lines.VectorLines.put_next.Goals as goal

pub last_line-requires : goal.last_line-requires
last_line-requires g c = c.requires.ready.reached c.if-self.false c.if-self-eq0.true

pub returns-then-self-eq0-clause-put : goal.returns-then-self-eq0-clause-put
returns-then-self-eq0-clause-put g c =
    let s = c.args.self.now in
    line_put c.args.input.now _ _ (line_of c.in_ok-line.line) _ _ _ _ c.kind-kind.ensures.sound c.requires.some
    (last_given _ (g.V.Vectors.order s.vectors) _ (g.V.Vectors.is_one s.vectors) _ (g.V.Vectors.cursor s.vectors) s.over s.left s.left (line_of c.in_ok-line.line) c.if-self.false c.if-self-eq0.true c.in_ok-line.ensures) c.in_ok-put_text.ensures.ok

pub returns-then-not-found-clause-put : goal.returns-then-not-found-clause-put
returns-then-not-found-clause-put g c =
    let s = c.args.self.now in
    line_put c.args.input.now _ _ LineData.End _ _ _ _ c.kind-kind.ensures.sound c.requires.some
    (end_given _ (g.V.Vectors.order s.vectors) _ (g.V.Vectors.is_one s.vectors) _ (g.V.Vectors.cursor s.vectors) s.over s.left s.left c.if-self.false (c.in_ok-found.ensures.none c.if-not-found.true).0) c.in_ok-put_text-2.ensures.ok

pub returns-clause-put : goal.returns-clause-put
returns-clause-put g c =
    let s = c.args.self.now in
    let v = c.current.result.now in
    let count : s.left ≡ (s.left - 1) + 1 = omega (arith, c.if-self-eq0.false) in
    let next = reached_next (c.in_ok-found.ensures.next c.if-not-found.false) c.current.ensures in
    let some = c.requires.some in
    line_put c.args.input.now _ _ (LineData.Vector v) _ _ _ _ c.kind-kind.ensures.sound some
    (vector_given _ _ _ _ _ _ s.over s.left (s.left - 1) v c.if-self.false count c.in_ok-found.ensures.same next c.current.ensures (record { lines = some.given.answer; given = some.given.is_right }))
    (c.in_ok-put_vector.ensures ∙ ap (λ (xs : List ℕ). c.args.into.now.bytes ++ (codes "vector " ++ vector_text xs)) c.in_ok-show.ensures.shown)

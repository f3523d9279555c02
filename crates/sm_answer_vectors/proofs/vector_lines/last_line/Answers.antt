use Rattle.std.proofs.Common.{ap, refl}
use Rattle.sm_report.specs.Lines.{LineData}
use Rattle.sm_answer_vectors.proofs.RemainingLemmas.{more_follows, none_follows}
use Rattle.sm_answer_vectors.proofs.vector_lines.last_line.Goals as goal

pub returns-then-found : goal.returns-then-found
returns-then-found g c =
    more_follows c.current.result.now _ c.current.ensures (c.in_ok-found.ensures.next c.if-found.true) (ap (λ v. LineData.More v) c.in_ok-last.ensures.items)

pub returns-else-found : goal.returns-else-found
returns-else-found g c = none_follows _ _ (c.in_ok-found.ensures.none c.if-found.false).0 refl

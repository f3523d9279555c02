use Rattle.std.proofs.Common.{◌≡◌, ap, sym, subst, ◌∙◌, arith}
use Rattle.sm_text.specs.Lines.{lines}
use Rattle.sm_text.specs.Slices.{texts_of}
use Rattle.sm_text.specs.Tokens.{tokens}
use Rattle.std.proofs.Common.{drop}
use Rattle.sm_reader.specs.Judging.{heading_of}
use Rattle.sm_reader.specs.InstanceText.{before_header}
use Rattle.sm_reader.specs.Reading.{IsFaultOf, IsHeadingFault}
use Rattle.sm_reader.proofs.EnoughLemmas.{heading_enough}
use Rattle.sm_reader.proofs.ReadingLemmas.{heading_passes, heading_heads, heading_faces, same_fault}
use Rattle.sm_reader.proofs.ResultLemmas.{on_err}
use Rattle.sm_reader.proofs.reading.read_header.Goals as goal

pub lines-preserved : goal.lines-preserved
lines-preserved c =
    let same : heading_of (texts_of c.deref.result.now) ≡ heading_of (tokens c.in-Some.text.now) =
    ap (λ xs. heading_of (texts_of xs)) c.deref.ensures.value ∙ heading_enough _ _ c.in_ok-found.ensures.enough in
    let found = rw c.in_default-2.is at c.in_ok-kind.ensures.heading in
    record {
      means = sym (heading_passes c.args.bytes.now c.in-Some.text.now c.lines.at c.in-Some.next c.in-Some.ensures.line c.lines.line (sym same ∙ found)) ∙ c.lines.invariant.means;
      first = omega (arith, c.lines.invariant.first);
      fits = omega (arith, c.lines.invariant.fits, c.in-Some.ensures.later);
      within = c.in-Some.ensures.within;
    }

pub returns-in-Some-2-clause-header : goal.returns-in-Some-2-clause-header
returns-in-Some-2-clause-header c =
    let same : heading_of (texts_of c.deref.result.now) ≡ heading_of (tokens c.in-Some.text.now) =
    ap (λ xs. heading_of (texts_of xs)) c.deref.ensures.value ∙ heading_enough _ _ c.in_ok-found.ensures.enough in
    let found = rw c.in-Some-2.is at c.in_ok-kind.ensures.heading in
    record {
      means = sym c.lines.invariant.means
          ∙ heading_heads c.args.bytes.now c.in-Some.text.now c.lines.at c.in-Some.next c.in-Some.ensures.line c.lines.line c.in-Some-2.kind c.in-Some-2.format (sym same ∙ found);
      first = c.lines.invariant.first;
      fits = omega (arith, c.lines.invariant.fits, c.in-Some.ensures.later);
      within = c.in-Some.ensures.within;
    }

pub returns-in_err-kind-clause-fault : goal.returns-in_err-kind-clause-fault
returns-in_err-kind-clause-fault c =
    let bytes = c.args.bytes.now in
    let same : heading_of (texts_of c.deref.result.now) ≡ heading_of (tokens c.in-Some.text.now) =
    ap (λ xs. heading_of (texts_of xs)) c.deref.ensures.value ∙ heading_enough _ _ c.in_ok-found.ensures.enough in
    let f = c.in_err-kind.field-0.0 in
    let fault = subst (λ h. IsHeadingFault h c.lines.line f) same c.in_err-kind.ensures.fault in
    on_err (IsFaultOf (before_header 1 0 (lines bytes))) c.from_residual-in_err-kind.result f c.from_residual-in_err-kind.ensures.1
    (same_fault (before_header 1 0 (lines bytes)) (before_header c.lines.line c.lines.at (lines (drop c.lines.at bytes))) f (sym c.lines.invariant.means)
    (heading_faces bytes c.in-Some.text.now c.lines.at c.in-Some.next c.in-Some.ensures.line c.lines.line f fault))

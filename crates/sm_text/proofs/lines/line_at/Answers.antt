use Rattle.std.proofs.Common.{◌≡◌, ◌+◌, ◌<◌, length, drop, refl, ap, ◌∙◌, arith}
use Rattle.std.proofs.lemmas.List.{take_rest}
use Rattle.sm_text.specs.Lines.{content, first_line}
use Rattle.sm_text.proofs.LineLemmas.{lines_drop}
use Rattle.sm_text.proofs.lines.line_at.Goals as goal

pub returns : goal.returns
returns c =
    let bytes = c.args.bytes.now in
    let from = c.args.from in
    let inside : from < length bytes = omega (arith, c.if-from-bytes.false) in
    let line : c.first_line-line.result.now ≡ first_line (drop from bytes) = c.first_line-line.ensures ∙ ap first_line (take_rest bytes from) in
    record {
      within = inside;
      start = refl;
      stop = ap (λ t. from + length t) (c.content.ensures ∙ ap content line);
      next = ap (λ t. from + length t) line;
      leads = rw line (lines_drop bytes from inside);
    }

use Rattle.std.proofs.Common.{◌≡◌, ◌∙◌, ◌-◌, ◌||◌, sym, ap, take, drop}
use Rattle.std.specs.List.{list_any}
use Rattle.sm_text.specs.Tokens.{tokens}
use Rattle.sm_text.specs.Slices.{texts_of}
use Rattle.sm_keys.specs.Tokens.{is_bad}
use Rattle.sm_keys.proofs.EnoughLemmas.{enough_step, bad_already, bad_here}
use Rattle.sm_keys.proofs.long.keep_tokens.Goals.{then-bad, else-bad}
use Rattle.sm_keys.proofs.long.keep_tokens.Goals as goal

pub tokens-preserved : goal.tokens-preserved
tokens-preserved c =
    let line = c.args.line.now in
    let token = c.in-Some.token in
    let leading = c.in-Some.ensures.places in
    let here = is_bad (take (token.stop - token.start) (drop token.start line)) in
    let rest = list_any is_bad (tokens (drop token.stop line)) in
    let all = list_any is_bad (tokens line) in
    let told : (c.tokens.bad || (here || rest)) ≡ all = ap (λ ts. c.tokens.bad || list_any is_bad ts) (sym leading.leads) ∙ c.tokens.invariant.bad in
    record {
      enough = enough_step line (texts_of c.tokens.kept.items) c.tokens.from c.tokens.invariant.enough token.start token.stop leading (texts_of c.keep.new.kept.items) c.in_ok-keep.ensures;
      bad = elim c.if-bad.branch [
        | then-bad w ↦ bad_already c.tokens.bad here c.if-bad.bad rest all w.if-bad.true (w.bad-is ∙ w.if-bad.true) told
        | else-bad w ↦ bad_here c.tokens.bad here c.if-bad.bad rest all w.if-bad.false (w.bad-is ∙ c.in-Some.ensures.bad) told
      ];
    }

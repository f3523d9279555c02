use Rattle.std.proofs.Common.{◌≡◌, eqb, false, get_or, sym, ◌∙◌, arith, drop, ◌+◌}
use Rattle.std.proofs.lemmas.Bool.Decides.{nat_tests}
use Rattle.sm_text.proofs.TokenLemmas.{token_at-here, tokens-at_end, tokens-at_hash, run_leads, other_leads, first_token-mark, first_token-bad}
use Rattle.sm_text.proofs.tokens.token_at.Goals as goal

pub returns-then-at-line-clause-leads : goal.returns-then-at-line-clause-leads
returns-then-at-line-clause-leads c = tokens-at_end c.args.line.now c.args.from c.blanks_end-at.result c.blanks_end-at.ensures (omega arith)

pub returns-in-35-clause-leads : goal.returns-in-35-clause-leads
returns-in-35-clause-leads c = tokens-at_hash c.args.line.now c.args.from c.blanks_end-at.result c.blanks_end-at.ensures (omega arith) (omega arith)

pub returns-in_default-clause-leads : goal.returns-in_default-clause-leads
returns-in_default-clause-leads c =
    run_leads c.args.line.now c.args.from c.blanks_end-at.result c.run_end.result c.blanks_end-at.ensures (omega arith) (sym c.is_name_byte.ensures ∙ c.if-is_name_byte.true) c.run_end.ensures

pub returns-in_default-2-clause-token : goal.returns-in_default-2-clause-token
returns-in_default-2-clause-token c =
    let line = c.args.line.now in
    let at = c.blanks_end-at.result in
    let no_hash : eqb (get_or line at 0) 35 ≡ false = grind (arith, nat_tests) in
    sym (token_at-here line c.args.from at c.blanks_end-at.ensures (omega arith)
    ∙ first_token-mark line (drop (at + 1) line) at (get_or line at 0) no_hash (sym c.is_name_byte.ensures ∙ c.if-is_name_byte.false) (sym c.is_mark.ensures ∙ c.if-is_mark.true))

pub returns-in_default-2-clause-leads : goal.returns-in_default-2-clause-leads
returns-in_default-2-clause-leads c =
    let no_hash : eqb (get_or c.args.line.now c.blanks_end-at.result 0) 35 ≡ false = grind (arith, nat_tests) in
    other_leads c.args.line.now c.args.from c.blanks_end-at.result c.blanks_end-at.ensures (omega arith) no_hash (sym c.is_name_byte.ensures ∙ c.if-is_name_byte.false)

pub returns-in_default-3-clause-token : goal.returns-in_default-3-clause-token
returns-in_default-3-clause-token c =
    let line = c.args.line.now in
    let at = c.blanks_end-at.result in
    let no_hash : eqb (get_or line at 0) 35 ≡ false = grind (arith, nat_tests) in
    sym (token_at-here line c.args.from at c.blanks_end-at.ensures (omega arith)
    ∙ first_token-bad line (drop (at + 1) line) at (get_or line at 0) no_hash (sym c.is_name_byte.ensures ∙ c.if-is_name_byte.false) (sym c.is_mark.ensures ∙ c.if-is_mark.false))

pub returns-in_default-3-clause-leads : goal.returns-in_default-3-clause-leads
returns-in_default-3-clause-leads c =
    let no_hash : eqb (get_or c.args.line.now c.blanks_end-at.result 0) 35 ≡ false = grind (arith, nat_tests) in
    other_leads c.args.line.now c.args.from c.blanks_end-at.result c.blanks_end-at.ensures (omega arith) no_hash (sym c.is_name_byte.ensures ∙ c.if-is_name_byte.false)

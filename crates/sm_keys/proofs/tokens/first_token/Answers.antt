use Rattle.std.proofs.Common.{◌∙◌, sym, ap}
use Rattle.sm_text.specs.declared.tokens.TokenAt.TheVariants.{Run}
use Rattle.sm_keys.proofs.RunLemmas.{run_first, run_is_first}
use Rattle.sm_keys.proofs.tokens.first_token.Goals as goal

pub returns-then-is_name_byte-clause-token : goal.returns-then-is_name_byte-clause-token
returns-then-is_name_byte-clause-token c =
    ap (Run c.args.from) c.run_end.ensures ∙ run_first c.args.line.now c.args.from c.if-from-line.true (sym c.is_name_byte.ensures ∙ c.if-is_name_byte.true)

pub returns-then-is_name_byte-clause-leads : goal.returns-then-is_name_byte-clause-leads
returns-then-is_name_byte-clause-leads c =
    run_is_first c.args.line.now c.args.from c.if-from-line.true (sym c.is_name_byte.ensures ∙ c.if-is_name_byte.true) c.run_end.result c.run_end.ensures

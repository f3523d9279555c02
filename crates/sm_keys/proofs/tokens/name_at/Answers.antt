use Rattle.std.proofs.Common.{◌+◌, ◌∙◌, sym, arith}
use Rattle.sm_keys.proofs.RunLemmas.{name_tokens, name_is, name_no_bad}
use Rattle.sm_keys.proofs.tokens.name_at.Goals as goal

pub returns-then-line-at-eq32-clause-tokens : goal.returns-then-line-at-eq32-clause-tokens
returns-then-line-at-eq32-clause-tokens c =
    name_tokens c.args.line.now c.args.at (c.args.at + c.run_len-len.result) (omega (arith, c.run_len-len.ensures.some)) c.run_len-len.ensures.within (sym c.begins_name.ensures ∙ c.if-not-begins_name.false) c.if-line-at-eq32.true c.run_len-len.ensures.run

pub returns-then-line-at-eq32-clause-name : goal.returns-then-line-at-eq32-clause-name
returns-then-line-at-eq32-clause-name c =
    name_is c.args.line.now c.args.at (c.args.at + c.run_len-len.result) (omega (arith, c.run_len-len.ensures.some)) c.run_len-len.ensures.within (sym c.begins_name.ensures ∙ c.if-not-begins_name.false) c.if-line-at-eq32.true c.run_len-len.ensures.run
    (omega (arith, c.run_len-len.ensures.few))

pub returns-then-line-at-eq32-clause-bad : goal.returns-then-line-at-eq32-clause-bad
returns-then-line-at-eq32-clause-bad c =
    name_no_bad c.args.line.now c.args.at (c.args.at + c.run_len-len.result) (omega (arith, c.run_len-len.ensures.some)) c.run_len-len.ensures.within (sym c.begins_name.ensures ∙ c.if-not-begins_name.false) c.if-line-at-eq32.true c.run_len-len.ensures.run

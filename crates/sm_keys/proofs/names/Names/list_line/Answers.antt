use Rattle.std.proofs.Common.{arith}
use Rattle.sm_text.specs.Tokens.{tokens}
use Rattle.sm_keys.proofs.LineLemmas.{line_forgotten}
use Rattle.sm_keys.proofs.names.Names.list_line.Goals as goal

pub returns-then-not-is_empty : goal.returns-then-not-is_empty
returns-then-not-is_empty c =
    line_forgotten c.args.self.now c.list_tokens.new.self c.forget.new.self (tokens c.args.line.now) c.args.stamp c.in_ok-all.all c.list_tokens.new.indexes.items c.if-not-all.true (omega (arith, c.requires 0)) c.in_ok-all.ensures
    c.forget.ensures.texts c.forget.ensures.declared c.forget.ensures.stamps

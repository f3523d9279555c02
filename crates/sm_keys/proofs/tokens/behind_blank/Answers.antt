use Rattle.sm_keys.proofs.RunLemmas.{behind_space}
use Rattle.sm_keys.proofs.tokens.behind_blank.Goals as goal

pub returns-then-line-at-eq32-clause-tokens : goal.returns-then-line-at-eq32-clause-tokens
returns-then-line-at-eq32-clause-tokens c = behind_space c.args.line.now c.args.at c.if-at-line.true c.if-line-at-eq32.true

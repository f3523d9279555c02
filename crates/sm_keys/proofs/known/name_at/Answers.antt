use Rattle.std.proofs.Common.{◌+◌, arith}
use Rattle.sm_keys.specs.Keys.{key_texts}
use Rattle.sm_keys.proofs.KnownLemmas.{known_name}
use Rattle.sm_keys.proofs.WordLemmas.{number_there}
use Rattle.sm_keys.proofs.known.name_at.Goals as goal

pub returns-then-line-at-eq32 : goal.returns-then-line-at-eq32
returns-then-line-at-eq32 c =
    let stop = c.args.at + c.guessed_len-len.result in
    known_name (key_texts c.args.known.names.now) c.args.line.now c.args.at stop c.in_ok-index.index (omega arith) c.in_ok-index.ensures (omega (arith, c.if-at-last.false, c.requires, c.guessed_len-len.ensures)) c.if-line-at-eq32.true

pub index_of-requires-clause-first : goal.index_of-requires-clause-first
index_of-requires-clause-first c =
    number_there c.args.line.now c.args.at c.guessed_len-len.result c.eight_from-first.result (λ i. omega (arith, c.type_inv.line i)) (omega (arith, c.if-at-last.false, c.requires)) c.guessed_len-len.ensures c.eight_from-first.ensures

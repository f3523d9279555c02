use Rattle.std.proofs.Common.{◌+◌, arith}
use Rattle.sm_keys.specs.Keys.{key_texts}
use Rattle.sm_keys.proofs.KnownLemmas.{known_name, known_last}
use Rattle.sm_keys.proofs.WordLemmas.{number_at_end}
use Rattle.sm_keys.proofs.known.name_at_end.Goals as goal

pub index_of-requires-clause-first : goal.index_of-requires-clause-first
index_of-requires-clause-first c =
    number_at_end c.args.line.now c.args.at c.min-len.result c.last_from-first.result (λ i. omega (arith, c.type_inv.line i)) (omega (arith, c.requires, c.if-at-last.false)) (omega (arith, c.requires, c.if-at-last.false, c.if-line-lt8.false, c.if-before-ge8.false, c.min-len.ensures)) c.last_from-first.ensures

pub returns-then-stop-line : goal.returns-then-stop-line
returns-then-stop-line c =
    let stop = c.args.at + c.min-len.result in
    known_last (key_texts c.args.known.names.now) c.args.line.now c.args.at stop c.in_ok-index.index (omega arith) c.in_ok-index.ensures (omega (arith, c.requires, c.if-at-last.false, c.if-line-lt8.false, c.if-before-ge8.false, c.if-stop-line.true)) c.if-stop-line.true

pub returns-then-line-stop-eq32 : goal.returns-then-line-stop-eq32
returns-then-line-stop-eq32 c =
    let stop = c.args.at + c.min-len.result in
    known_name (key_texts c.args.known.names.now) c.args.line.now c.args.at stop c.in_ok-index.index (omega arith) c.in_ok-index.ensures (omega (arith, c.requires, c.if-at-last.false, c.if-line-lt8.false, c.if-before-ge8.false, c.min-len.ensures, c.if-stop-line.false)) c.if-line-stop-eq32.true

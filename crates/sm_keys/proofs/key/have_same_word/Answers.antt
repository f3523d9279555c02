use Rattle.std.proofs.Common.{arith}
use Rattle.sm_keys.proofs.WordLemmas.{words_decide}
use Rattle.sm_keys.proofs.key.have_same_word.Goals as goal

pub returns : goal.returns
returns c =
    words_decide c.args.a.now c.args.b.now (λ i. omega (arith, c.type_inv.a i)) (λ i. omega (arith, c.type_inv.b i)) c.requires.same_len c.args.word c.args.other
    c.requires.word c.requires.other c.requires.enough c.requires.few

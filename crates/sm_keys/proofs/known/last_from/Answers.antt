use Rattle.std.proofs.Common.{arith}
use Rattle.sm_keys.proofs.WordLemmas.{number_of_last}
use Rattle.sm_keys.proofs.known.last_from.Goals as goal

pub returns : goal.returns
returns c =
    number_of_last c.args.line.now c.args.at c.args.last c.eight_from.result (λ i. omega (arith, c.type_inv.line i)) c.requires.last c.requires.behind c.requires.within c.eight_from.ensures

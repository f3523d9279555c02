use Rattle.std.proofs.Common.{◌∙◌, arith}
use Rattle.std.proofs.lemmas.List.{ext_get_or}
use Rattle.sm_lister.proofs.vector_walk.copy_from.Goals as goal

pub returns : goal.returns
returns c = ext_get_or 0 c.loop-p.numbers c.args.others.now (c.loop-p.invariant.long ∙ c.requires.long) (λ p less. c.loop-p.invariant.alike p (omega (arith, less, c.loop-p.invariant.long)))

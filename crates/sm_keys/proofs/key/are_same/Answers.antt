use Rattle.sm_keys.proofs.WordLemmas.{same_word}
use Rattle.sm_keys.proofs.key.are_same.Goals as goal

pub returns : goal.returns
returns c = same_word c.args.a.now c.args.b.now c.from_le_bytes.result c.from_le_bytes-2.result c.told-a c.told-b c.fits-a c.fits-b c.from_le_bytes.ensures c.from_le_bytes-2.ensures

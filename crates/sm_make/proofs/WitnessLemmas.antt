-- A made instance that is known.
use Rattle.std.proofs.Common.{refl}
use Rattle.sm_make.specs.Words.{words}
use Rattle.sm_make.specs.Shuffle.{shuffle_down}
use Rattle.sm_make.specs.Witnesses.{IsMadeOfTwo}

-- the marriage of two is as computed
pub made_of_two : IsMadeOfTwo
unfolding words shuffle_down
made_of_two = record { drawn = refl; first = refl; second = refl; third = refl; fourth = refl }

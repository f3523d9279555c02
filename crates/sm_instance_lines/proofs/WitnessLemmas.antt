-- The lines of specs/Witnesses.antt, computed.
use Rattle.std.proofs.Common.{refl}
use Rattle.std.specs.Fmt as fmt
use Rattle.sm_instance_lines.specs.Witnesses.{MarriagePrinted, OrderedPrinted, HospitalsPrinted, RoommatesPrinted}

-- the marriage has the lines that were written by hand
pub marriage_printed : MarriagePrinted
unfolding fmt.digits
marriage_printed = refl

-- so has the one of format 2
pub ordered_printed : OrderedPrinted
unfolding fmt.digits
ordered_printed = refl

-- so have the hospitals
pub hospitals_printed : HospitalsPrinted
unfolding fmt.digits
hospitals_printed = refl

-- and the roommates
pub roommates_printed : RoommatesPrinted
unfolding fmt.digits
roommates_printed = refl

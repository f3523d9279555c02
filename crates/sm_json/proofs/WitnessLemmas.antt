-- The texts of specs/Witnesses.antt, computed.
use Rattle.std.proofs.Common.{refl}
use Rattle.std.specs.Fmt as fmt
use Rattle.std.specs.Str.{chars, is_utf8}
use Rattle.serde_json.proofs.OnLiterals.{serde_json_on_literals}
use Rattle.sm_text.specs.Name.{begins_name, is_name_byte}
use Rattle.sm_json.specs.Witnesses.{MarriageRead, HospitalsRead, RoommatesRead, NothingRead, MarriageWritten, OrderedWritten, LinesWritten}

-- the marriage stands for the text that was written by hand
pub marriage_read : MarriageRead
unfolding serde_json_on_literals chars is_utf8 begins_name is_name_byte fmt.digits
marriage_read = refl

-- so do the hospitals
pub hospitals_read : HospitalsRead
unfolding serde_json_on_literals chars is_utf8 begins_name is_name_byte fmt.digits
hospitals_read = refl

-- and the roommates
pub roommates_read : RoommatesRead
unfolding serde_json_on_literals chars is_utf8 begins_name is_name_byte fmt.digits
roommates_read = refl

-- three values are no instances
pub nothing_read : NothingRead
unfolding serde_json_on_literals chars is_utf8 begins_name is_name_byte
nothing_read = (refl, refl, refl)

-- the marriage with weights and conditions is written so
pub marriage_written : MarriageWritten
unfolding serde_json_on_literals fmt.digits
marriage_written = refl

-- so is the one with a second weight and an order
pub ordered_written : OrderedWritten
unfolding serde_json_on_literals fmt.digits
ordered_written = refl

-- and the lines of an answer
pub lines_written : LinesWritten
lines_written = refl

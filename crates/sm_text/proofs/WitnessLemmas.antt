-- What stands in specs/Witnesses.antt, computed.
use Rattle.std.proofs.Common.{refl}
use Rattle.sm_text.specs.Name as name
use Rattle.sm_text.specs.Tokens as token
use Rattle.sm_text.specs.Plain as plain
use Rattle.sm_text.specs.Witnesses.{LinesEnd, NamesBegin, TokensCut, NumbersSpelt, PlainLines}

-- lines end as was found by hand
pub lines_end : LinesEnd
lines_end = (refl, refl, refl, refl, refl, refl)

-- names begin as was found by hand
pub names_begin : NamesBegin
unfolding name.begins_name name.is_name_byte
names_begin = (refl, refl)

-- lines are cut into tokens as was found by hand
pub tokens_cut : TokensCut
unfolding name.begins_name name.is_name_byte token.is_blank token.is_mark
tokens_cut = (refl, refl, refl)

-- numbers are spelt as was found by hand
pub numbers_spelt : NumbersSpelt
numbers_spelt = (refl, refl, refl, refl)

-- lines are plain as was found by hand
pub plain_lines : PlainLines
unfolding plain.is_plain_byte
plain_lines = (refl, refl)

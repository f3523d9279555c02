-- The tables of the bytes that a name may hold, and with which it may begin.
use Rattle.std.proofs.Common.{◌≡◌, ℕ, ◌<◌, false, get_or, map, refl, ap, ◌∙◌, arith}
use Rattle.std.proofs.lemmas.List.FromFn.{get_or-map-range_with_len}
use Rattle.std.specs.List.{range_with_len}
use Rattle.sm_text.specs.Name.{begins_name, is_name_byte}
use Rattle.sm_text.specs.declared.names.TheConstants.{NAME_BYTES, FIRST_BYTES}

-- it has the answer for each byte
table_is : NAME_BYTES ≡ map is_name_byte (range_with_len 0 256)
unfolding is_name_byte begins_name
table_is = refl

-- so a look at the table answers
pub table_at : (b : ℕ) → b < 256 → get_or NAME_BYTES b false ≡ is_name_byte b
table_at b h = ap (λ t. get_or t b false) table_is ∙ get_or-map-range_with_len is_name_byte 0 256 b b false h (omega arith)

first_table_is : FIRST_BYTES ≡ map begins_name (range_with_len 0 256)
unfolding begins_name
first_table_is = refl

-- and so it is with the first byte
pub first_table_at : (b : ℕ) → b < 256 → get_or FIRST_BYTES b false ≡ begins_name b
first_table_at b h = ap (λ t. get_or t b false) first_table_is ∙ get_or-map-range_with_len begins_name 0 256 b b false h (omega arith)

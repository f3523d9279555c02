-- Names.
use Rattle.std.specs.Prelude.{ℕ, ◌==◌, ◌&&◌, ◌||◌, Bool, List, length, nat_le, slice_index}
use Rattle.std.specs.List.{list_all}
use Rattle.sm_text.specs.Limits.{most_name_bytes}

-- a letter, small or capital
abbrev pub is_letter : ℕ → Bool
is_letter b = (nat_le 65 b && nat_le b 90) || (nat_le 97 b && nat_le b 122)

-- a decimal digit
abbrev pub is_digit : ℕ → Bool
is_digit b = nat_le 48 b && nat_le b 57

-- a letter, a digit or `_`: what a name begins with
unfoldable pub begins_name : ℕ → Bool
begins_name b = is_letter b || is_digit b || b == 95

-- a letter, a digit, `_`, `.` or `-`
unfoldable pub is_name_byte : ℕ → Bool
is_name_byte b = begins_name b || b == 46 || b == 45

-- a name: 1 to 64 name bytes, the first of them a letter, a digit or `_`
abbrev pub is_name : List ℕ → Bool
is_name run = nat_le 1 (length run) && nat_le (length run) most_name_bytes && begins_name (slice_index run 0) && list_all is_name_byte run

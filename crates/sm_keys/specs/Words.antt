-- The words of names.
use Rattle.std.specs.Prelude.{◌≡◌, ℕ, true, ◌-◌, ◌*◌, ◌^◌, ◌<◌, ◌≤◌, List, length, slice_index, take}
use Rattle.std.specs.Int.{from_le_bytes, w64}
use Rattle.sm_text.specs.Name.{is_name}

-- the word of one to eight bytes: the number that they make, the first one least, moved up so that the last one stands at the top of 64 bits
abbrev pub word_of : List ℕ → ℕ
word_of name = from_le_bytes w64 name * 2 ^ (64 - 8 * length name)

-- the word of a name of one to eight bytes is that of its bytes
abbrev pub IsWordOf : ℕ → List ℕ → Type 0
IsWordOf word name = 1 ≤ length name → length name ≤ 8 → word ≡ word_of name

-- a number is that of eight bytes which begin with a name
pub record HasWord (first : ℕ) (name : List ℕ) : Type 0 where
  pub bytes : List ℕ
  pub are_eight : length bytes ≡ 8
  pub small : (i : ℕ) → slice_index bytes i < 256
  pub number : first ≡ from_le_bytes w64 bytes
  pub begins : take (length name) bytes ≡ name

-- a number is 0, or the length of a text that is a name
pub record IsNameLen (len : ℕ) (text : List ℕ) : Type 0 where
  pub long : 1 ≤ len → len ≡ length text
  pub is_name : 1 ≤ len → is_name text ≡ true

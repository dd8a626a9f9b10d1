-- Words and names.
use Rattle.std.specs.Prelude.{◌&&◌, ◌||◌, ℕ, nat_le, Bool, List, length, slice_index}
use Rattle.std.specs.Char.{is_ascii_digit}
use Rattle.std.specs.List.{list_all}
use Rattle.lease_terms.specs.declared.names.TheConstants.{LONGEST_NAME}

-- a to z
abbrev pub is_letter : ℕ → Bool
is_letter b = nat_le 97 b && nat_le b 122

-- a letter or a digit
abbrev pub is_word_byte : ℕ → Bool
is_word_byte b = is_letter b || is_ascii_digit b

-- one or more of the letters and digits
abbrev pub is_word : List ℕ → Bool
is_word word = nat_le 1 (length word) && list_all is_word_byte word

-- a name is a word that begins with a letter and is short enough
abbrev pub is_name : List ℕ → Bool
is_name word = is_word word && (is_letter (slice_index word 0) && nat_le (length word) LONGEST_NAME)

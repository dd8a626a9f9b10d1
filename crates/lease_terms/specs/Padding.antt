-- How a name lies in its bytes: at their front, with 0 behind it.
use Rattle.std.specs.Prelude.{◌≡◌, ◌-◌, ◌++◌, ℕ, List, true, take, length, replicate}
use Rattle.std.proofs.Common.{◌∙◌, ap}
use Rattle.lease_terms.specs.declared.names.ArenaName.TheInside.{Inside}
use Rattle.lease_terms.specs.declared.names.TheConstants.{LONGEST_NAME}
use Rattle.lease_terms.specs.Names.{is_name}

-- the bytes of the name
abbrev pub name_text : Inside → List ℕ
name_text n = take n.len n.bytes

-- a text with 0 behind it, as long as the longest name
abbrev pub padded_text : List ℕ → List ℕ
padded_text text = text ++ replicate (LONGEST_NAME - length text) 0

-- it is a name, as long as it says, with 0 behind it
abbrev pub IsPadded : Inside → Type 0
IsPadded n =
    (is_name (name_text n) ≡ true) × (length (name_text n) ≡ n.len)
    × (padded_text (name_text n) ≡ n.bytes)

-- where a name lies
abbrev pub inside_of : List ℕ → Inside
inside_of text = record { bytes = padded_text text; len = length text }

pub inside_of-name_text : (n : Inside) → IsPadded n → inside_of (name_text n) ≡ n
inside_of-name_text n is =
    let length_is : length (name_text n) ≡ n.len = is.1 in
    let bytes_are : padded_text (name_text n) ≡ n.bytes = is.2 in
    ap (λ b. record { bytes = b; len = length (name_text n) }) bytes_are
    ∙ ap (λ l. record { bytes = n.bytes; len = l }) length_is

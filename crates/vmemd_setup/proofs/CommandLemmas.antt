-- What the proof of `given` cites.
use Rattle.std.proofs.Common.{arith, ◌≡◌, ◌∙◌, ◌<◌, ◌≤◌, ◌^◌, ap, ap₂, refl, sym, ℕ, List, [], Option, Some, None, Result, Ok, Err}
use Rattle.std.specs.Option.{option_map, unwrap_or}
use Rattle.std.specs.Result.{result_unwrap_or}
use Rattle.std.specs.Borrow.{Bor}
use Rattle.std.specs.Prelude.{Box}
use Rattle.std.specs.Box.{box_value}
use Rattle.std.specs.Fmt.{decimal}
use Rattle.std.specs.Str.Parse.{ParsesUnsigned}
use Rattle.std.proofs.lemmas.Fmt.{parse-decimal}
use Rattle.clap.specs.Words.{ReadsOne, Row, Text, found_of, rows_of, subcommand_name_of, subcommand_rows_of}
use Rattle.clap.specs.declared.parser.matches.ArgMatches.{ArgMatches}
use Rattle.clap.specs.declared.parser.matches.ArgMatches.TheViews.{out-ArgMatches, out-SubCommand}
use Rattle.clap.specs.declared.parser.matches.SubCommand.{SubCommand}
use Rattle.vmemd_setup.specs.Commands.{GivesNumber, GivesOption}

-- the name that was found is that of what was found
pub name_of_rows : (m : ArgMatches) → subcommand_name_of m ≡ option_map (λ p. p.0) (subcommand_rows_of m)
name_of_rows m = go (out-ArgMatches m).subcommand
  where
    go : {Z : Type 0} (o : Option (Box SubCommand Z)) → option_map (λ b. (out-SubCommand (box_value b)).name.now) o
        ≡ option_map (λ (p : Text × List Row). p.0) (option_map (λ b. ((out-SubCommand (box_value b)).name.now, rows_of (found_of (out-SubCommand (box_value b)).matches))) o)
    go None = refl
    go (Some b) = refl

-- what was found, by its name and its rows
pub found_by_parts : (found : Option (Text × List Row)) (name : Text) (rows : List Row) → Some name ≡ option_map (λ p. p.0) found
    → Some rows ≡ option_map (λ p. p.1) found → found ≡ Some (name, rows)
found_by_parts None name rows n r = cc
found_by_parts (Some p) name rows n r =
    ap₂ (λ (a : Text) (b : List Row). Some (a, b)) (sym (ap (λ o. unwrap_or o name) n)) (sym (ap (λ o. unwrap_or o rows) r))

-- the text of a word, or the empty one
pub text_given : (read : Option (Bor Text)) (empty : Bor Text) (text : Option Text) → empty.now ≡ [] → option_map (λ s. s.now) read ≡ text
    → (unwrap_or read empty).now ≡ unwrap_or text []
text_given None empty text none is = none ∙ ap (λ o. unwrap_or o []) is
text_given (Some s) empty text none is = ap (λ o. unwrap_or o []) is

-- the number that a word says is read as that number
pub number_read : {E : Type 0} (width : ℕ) (gives : List ℕ → Result ℕ E → Type 0) (n : ℕ) (read : Option ℕ)
    → ReadsOne gives (decimal n) read → ((text : List ℕ) (r : Result ℕ E) → gives text r → ParsesUnsigned width 10 text r)
    → n < 2 ^ width → n < 2 ^ 64 → read ≡ Some n
number_read {E} width gives n (Some v) h parses small fits =
    ap (λ (r : Result ℕ E). Some (result_unwrap_or r 0)) (parse-decimal width n (decimal n) (Ok v) small fits refl (parses (decimal n) (Ok v) h))
number_read {E} width gives n None h parses small fits =
    let bad : ◌≡◌ {A = Result ℕ E} (Err h.0) (Ok n) = parse-decimal width n (decimal n) (Err h.0) small fits refl (parses (decimal n) (Err h.0) h.1) in
    cc

-- the same of a word that may not be there, up to a greatest number
pub number_says : {E : Type 0} (gives : List ℕ → Result ℕ E → Type 0) (said : Option (List ℕ)) (most : ℕ) (read : Option ℕ)
    → ((text : List ℕ) → said ≡ Some text → ReadsOne gives text read) → ((text : List ℕ) (r : Result ℕ E) → gives text r → ParsesUnsigned 32 10 text r)
    → most < 2 ^ 32 → (n : ℕ) → said ≡ Some (decimal n) → n ≤ most → read ≡ Some n
number_says gives said most read value parses fits n is high = number_read 32 gives n read (value (decimal n) is) parses (omega arith) (omega arith)

-- with another number where an option gives none
pub gives_number : (rows : List Row) (word : Text) (most otherwise : ℕ) (given : Option ℕ) → 1 ≤ otherwise → otherwise ≤ most → GivesOption rows word most given
    → GivesNumber rows word most otherwise (unwrap_or given otherwise)
gives_number rows word most otherwise None low high (within, none, says) = (low, high, λ is. refl, λ n is l h. (let bad : None ≡ Some n = says n is l h in cc))
gives_number rows word most otherwise (Some v) low high (within, none, says) =
    (within.0, within.1, λ is. (let bad : Some v ≡ None = none is in cc), λ n is l h. ap (λ o. unwrap_or o otherwise) (says n is l h))

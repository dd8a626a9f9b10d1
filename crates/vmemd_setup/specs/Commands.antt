-- The words of the command line, and how a program ends that they are for no part of.
use Rattle.std.specs.Prelude.{◌≡◌, ◌≢◌, ◌⊎◌, ℕ, Bool, List, ◌∷◌, [], Option, Some, true, false}
use Rattle.std.specs.Prelude.{None, IfSome, codes, pos, option_copied, unwrap_or, ◌≤◌}
use Rattle.std.specs.Fmt.{decimal}
use Rattle.std.specs.Io.KnownBytes.{Appends, Keeps}
use Rattle.clap.specs.Words.{App, Kinds, IsAmong, Rule, new_app, new_rule, with_rule}
use Rattle.clap.specs.Words.{with_subcommand, kind_of, Row, first_of, one_of}
use Rattle.clap.specs.declared.builder.action.ArgAction.TheVariants.{Set}
use Rattle.clap.specs.declared.builder.value_parser.ValueParser.TheVariants.{Signed}
use Rattle.clap.specs.declared.error.Error.{Error}
use Rattle.clap.specs.declared.error.kind.ErrorKind.{ErrorKind}
use Rattle.clap.specs.declared.error.kind.ErrorKind.TheVariants as kind
use Rattle.vmemd_setup.specs.declared.commands.TheConstants.{MOST_WORKERS, MOST_SECONDS}
use Rattle.vmemd_setup.specs.declared.commands.TheConstants.{MOST_CONNECTIONS}
use Rattle.vmemd_setup.specs.declared.commands.TheConstants.{LINE_LIMIT, IDLE_LIMIT}
use Rattle.vmemd_setup.specs.declared.commands.ServeWords.{ServeWords}
use Rattle.vmemd_setup.specs.declared.commands.GivenWords.{GivenWords}
use Rattle.vmemd_setup.specs.declared.commands.GivenWords.TheVariants.{Script, Serve}
use Rattle.vmemd_setup.specs.declared.commands.WordsFault.{WordsFault}
use Rattle.vmemd_setup.specs.declared.commands.WordsFault.TheVariants.{Asked, Mistaken, NotText}
use Rattle.vmemd_setup.specs.declared.commands.WordsFault.TheVariants.{Memory}
use Rattle.vmemd_setup.specs.declared.faults.ScriptFault.TheVariants as script
use Rattle.vmemd_setup.specs.Endings.{exit_of}

-- the program's command before its subcommand is added
abbrev pub bare_program : App
bare_program = record (new_app (codes "vmemd")) {
  top = record (new_app (codes "vmemd")).top {
    has_version = true;
    disable_help_subcommand = true;
    arg_required_else_help = true;
    subcommand_required = true;
  };
}

-- a word that has to stand in its place
abbrev pub required_word : List ℕ → Rule
required_word id = record (new_rule id) { required = true; action = Some Set }

-- how many workers serve, from 1 on
abbrev pub workers_word : Rule
workers_word = record (required_word (codes "WORKERS")) {
  parser = Some (Signed (pos 1) (pos MOST_WORKERS));
}

-- an option of so many seconds, from 1 on
abbrev pub seconds_word : List ℕ → Rule
seconds_word id = record (new_rule id) {
  long = Some id;
  value_names = 1;
  action = Some Set;
  parser = Some (Signed (pos 1) (pos MOST_SECONDS));
}

-- the option of so many connections, from 1 on
abbrev pub connections_word : Rule
connections_word = record (new_rule (codes "connections")) {
  long = Some (codes "connections");
  value_names = 1;
  action = Some Set;
  parser = Some (Signed (pos 1) (pos MOST_CONNECTIONS));
}

-- the option of where the server is watched
abbrev pub metrics_word : Rule
metrics_word = record (new_rule (codes "metrics")) {
  long = Some (codes "metrics");
  value_names = 1;
  action = Some Set;
}

-- the words of `serve ADDRESS CONFIG WORKERS`
abbrev pub bare_serve : App
bare_serve = with_rule (with_rule (with_rule (new_app (codes "serve"))
    (required_word (codes "ADDRESS"))) (required_word (codes "CONFIG"))) workers_word

-- the subcommand `serve`, with its options
abbrev pub serve_command : App
serve_command =
    with_rule (with_rule (with_rule (with_rule (with_rule bare_serve
    (seconds_word (codes "line-limit"))) (seconds_word (codes "idle-limit")))
    (seconds_word (codes "grace"))) connections_word) metrics_word

-- the program's command, which has to have one of the subcommands `script` and `serve`
abbrev pub program : App
program = with_subcommand (with_subcommand bare_program (new_app (codes "script")).top)
    serve_command.top

-- `vmemd script`
abbrev pub script_words : List (List ℕ)
script_words = codes "vmemd" ∷ codes "script" ∷ []

-- a number from 1 to the most: what the word says, where it says such a one, and the other where
-- the word isn't there
abbrev pub GivesNumber : List Row → List ℕ → ℕ → ℕ → ℕ → Type 0
GivesNumber rows word most otherwise number = (1 ≤ number) × (number ≤ most)
    × (one_of word rows ≡ None → number ≡ otherwise)
    × ((n : ℕ) → one_of word rows ≡ Some (decimal n) → 1 ≤ n → n ≤ most → number ≡ n)

-- the same of a word without which there is no number
abbrev pub GivesOption : List Row → List ℕ → ℕ → Option ℕ → Type 0
GivesOption rows word most given = IfSome given (λ n. (1 ≤ n) × (n ≤ most))
    × (one_of word rows ≡ None → given ≡ None)
    × ((n : ℕ) → one_of word rows ≡ Some (decimal n) → 1 ≤ n → n ≤ most → given ≡ Some n)

-- what the values of the words of `serve` ask for
abbrev pub AsksToServe : List Row → ServeWords → Type 0
AsksToServe rows asked = (asked.address.now ≡ unwrap_or (first_of (codes "ADDRESS") rows) [])
    × (asked.config.now ≡ unwrap_or (first_of (codes "CONFIG") rows) [])
    × GivesNumber rows (codes "WORKERS") MOST_WORKERS 1 asked.workers
    × GivesNumber rows (codes "line-limit") MOST_SECONDS LINE_LIMIT asked.line_limit
    × GivesNumber rows (codes "idle-limit") MOST_SECONDS IDLE_LIMIT asked.idle_limit
    × GivesOption rows (codes "grace") MOST_SECONDS asked.grace
    × GivesOption rows (codes "connections") MOST_CONNECTIONS asked.connections
    × (option_copied asked.metrics ≡ first_of (codes "metrics") rows)

-- what is given, by the name of the command that clap finds and the values of its words: all but
-- `serve` is a script
abbrev pub IsGivenBy : Option (List ℕ × List Row) → GivenWords → Type 0
IsGivenBy found (Serve asked) = (rows : List Row) × (found ≡ Some (codes "serve", rows))
    × AsksToServe rows asked
IsGivenBy found Script = (rows : List Row) → found ≢ Some (codes "serve", rows)

-- help or the version was asked for
abbrev pub IsAskedFor : ErrorKind → Type 0
IsAskedFor of = (of ≡ kind.DisplayHelp) ⊎ (of ≡ kind.DisplayVersion)

-- a text that was asked for, or one of a mistake
abbrev pub ShowsError : Error → WordsFault → Type 0
ShowsError error (Asked text) = IsAskedFor (kind_of error)
ShowsError error (Mistaken text) = (kind_of error ≢ kind.DisplayHelp)
    × (kind_of error ≢ kind.DisplayVersion) × (kind_of error ≢ kind.OutOfMemory)
ShowsError error NotText = ⊥
ShowsError error Memory = Unit {0}

-- by the faults that clap finds in words, of which there may be none: what they are told
abbrev pub FailsWords : Kinds → WordsFault → Type 0
FailsWords found (Asked text) = IsAmong kind.DisplayHelp found ⊎ IsAmong kind.DisplayVersion found
FailsWords found (Mistaken text) = (of : ErrorKind) × IsAmong of found × (of ≢ kind.DisplayHelp)
    × (of ≢ kind.DisplayVersion)
FailsWords found NotText = ⊥
FailsWords found Memory = Unit {0}

-- How a program ends whose words are for no part of it, by what standard output had before and has
-- after, whether it failed, and the exit status: a text that was asked for is written, and the
-- status is 0 just where it was; for a mistake it is 2.
abbrev pub EndsWords : WordsFault → Option (List ℕ) → Option (List ℕ) → Bool → ℕ → Type 0
EndsWords (Asked text) before after failed status =
    (failed ≡ false → (status ≡ 0) × Appends before after text.bytes.items)
    × (failed ≡ true → status ≡ exit_of script.Write)
EndsWords (Mistaken text) before after failed status = (status ≡ 2) × Keeps before after
EndsWords NotText before after failed status = (status ≡ 2) × Keeps before after
EndsWords Memory before after failed status = (status ≡ exit_of script.Memory) × Keeps before after

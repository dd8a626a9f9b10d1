use Rattle.std.proofs.Common.{rules, codes, ◌≡◌, ◌∙◌, Some}
use Rattle.std.specs.Option.{option_map}
use Rattle.clap.specs.Words.{found_of, rows_of, subcommand_name_of, subcommand_rows_of}
use Rattle.vmemd_setup.proofs.CommandLemmas.{found_by_parts, name_of_rows}
use Rattle.vmemd_setup.proofs.commands.given.Goals as goal

pub returns-in-Some-serve-default : goal.returns-in-Some-serve-default
returns-in-Some-serve-default c =
    let arm = c.in-Some-serve-default in
    let m = c.args.matches.now in
    let rows = rows_of (found_of arm.of.now) in
    let name : Some (codes "serve") ≡ subcommand_name_of m = search rules in
    let held : Some rows ≡ option_map (λ p. p.1) (subcommand_rows_of m) = search rules in
    (rows, found_by_parts (subcommand_rows_of m) (codes "serve") rows (name ∙ name_of_rows m) held, c.serve_given.ensures)

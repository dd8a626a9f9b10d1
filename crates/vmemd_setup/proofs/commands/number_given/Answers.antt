use Rattle.std.proofs.Common.{subst, sym}
use Rattle.clap.specs.Words.{found_of, rows_of}
use Rattle.vmemd_setup.specs.Commands.{GivesNumber}
use Rattle.vmemd_setup.proofs.CommandLemmas.{gives_number}
use Rattle.vmemd_setup.proofs.commands.number_given.Goals as goal

pub returns : goal.returns
returns c =
    let rows = rows_of (found_of c.args.of.now) in
    subst (GivesNumber rows c.args.id.now c.args.most c.args.otherwise) (sym c.unwrap_or.ensures)
    (gives_number rows c.args.id.now c.args.most c.args.otherwise c.option_given.result c.requires.0 c.requires.1 c.option_given.ensures)

use Rattle.stock.proofs.Numbered.{plain_setup_numbers, grown_numbers}
use Rattle.stock.proofs.laws.number_laws.Goals as goal

pub returns : goal.returns
returns c = record { setup = plain_setup_numbers; grown = grown_numbers }

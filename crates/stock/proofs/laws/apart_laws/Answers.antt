use Rattle.stock.proofs.LawProofs as laws
use Rattle.stock.proofs.laws.apart_laws.Goals as goal

pub returns : goal.returns
returns c = record { apart = laws.out_is_apart }

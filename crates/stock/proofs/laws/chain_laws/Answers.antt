use Rattle.stock.proofs.Chains.{source_stands_before, plans_stay, caches_stay}
use Rattle.stock.proofs.laws.chain_laws.Goals as goal

pub returns : goal.returns
returns c = record { before = source_stands_before; plans = plans_stay; caches = caches_stay }

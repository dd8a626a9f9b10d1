use Rattle.lease_machine.proofs.CachedSizes.{cached_by_number}
use Rattle.lease_machine.proofs.laws.cache_laws.Goals as goal

pub returns : goal.returns
returns c = cached_by_number

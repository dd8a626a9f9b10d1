use Rattle.lease_call.proofs.NoFitAsks.{no_fit_is_last}
use Rattle.lease_call.proofs.laws.no_fit_laws.Goals as goal

pub returns : goal.returns
returns g c = record { request = no_fit_is_last _ }

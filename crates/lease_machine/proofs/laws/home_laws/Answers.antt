use Rattle.lease_machine.proofs.Homes.{pictures_stay, setup_only_grows, setup_stays, units_have_one_home, leases_are_apart}
use Rattle.lease_machine.proofs.Spans.{same_grows, grows_then}
use Rattle.lease_machine.proofs.laws.home_laws.Goals as goal

pub returns-clause-stay : goal.returns-clause-stay
returns-clause-stay c = pictures_stay

pub returns-clause-grows : goal.returns-clause-grows
returns-clause-grows c = setup_only_grows

pub returns-clause-setup : goal.returns-clause-setup
returns-clause-setup c = setup_stays

pub returns-clause-same : goal.returns-clause-same
returns-clause-same c = same_grows

pub returns-clause-on : goal.returns-clause-on
returns-clause-on c = grows_then

pub returns-clause-home : goal.returns-clause-home
returns-clause-home c = units_have_one_home

pub returns-clause-apart : goal.returns-clause-apart
returns-clause-apart c = leases_are_apart

use Rattle.lease_machine.proofs.HeldLaws.{held_is_local, hand_is_local}
use Rattle.lease_machine.proofs.XallocLaws.{xalloc_carves}
use Rattle.lease_machine.proofs.AllocLaws.{alloc_climbs}
use Rattle.lease_machine.proofs.CachedLaws.{alloc_from_caches}
use Rattle.lease_machine.proofs.DrainLaws.{offline_is_local, drain_goes_offline}
use Rattle.lease_machine.proofs.FreeLaws.{free_goes_back}
use Rattle.lease_machine.proofs.laws.call_laws.Goals as goal

pub returns-clause-free : goal.returns-clause-free
returns-clause-free c = free_goes_back

pub returns-clause-local : goal.returns-clause-local
returns-clause-local c = held_is_local

pub returns-clause-hand : goal.returns-clause-hand
returns-clause-hand c = hand_is_local

pub returns-clause-xalloc : goal.returns-clause-xalloc
returns-clause-xalloc c = xalloc_carves

pub returns-clause-alloc : goal.returns-clause-alloc
returns-clause-alloc c = alloc_climbs

pub returns-clause-caches : goal.returns-clause-caches
returns-clause-caches c = alloc_from_caches

pub returns-clause-offline : goal.returns-clause-offline
returns-clause-offline c = offline_is_local

pub returns-clause-drain : goal.returns-clause-drain
returns-clause-drain c = drain_goes_offline

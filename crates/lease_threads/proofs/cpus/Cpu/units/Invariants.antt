use Rattle.std.proofs.Common.{◌≡◌, ◌+◌, ◌-◌, ◌^◌, min, take}
use Rattle.std.specs.Prelude.{sum_by}
use Rattle.std.specs.Option.{option_to_list}
use Rattle.deed_core.specs.Covering.{units_tagged}
use Rattle.magazine_layer.specs.Magazines.{cache_rounds}
use Rattle.lease_threads.proofs.cpus.Cpu.units.Given as goal

abbrev pub invariant-loop-own : goal.invariant-loop-own
invariant-loop-own g l = l.units ≡ min (units_tagged (option_to_list l.self.hand) + sum_by (λ r. units_tagged (cache_rounds r.cpu)) (take l.own-index l.self.caches)) (2 ^ 128 - 1)

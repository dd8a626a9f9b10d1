use Rattle.std.proofs.Common.{◌*◌, ap, arith}
use Rattle.arena_tree.proofs.Slabs.{slab_caches}
use Rattle.arena_tree.proofs.sizes.slab_size.Goals as goal

pub returns-clause-size : goal.returns-clause-size
returns-clause-size c =
    let product = ap (λ z. z * c.from-3.result) c.from-2.ensures in
    slab_caches c.args.quantum c.args.qcache_max c.next_power_of_two.result (omega arith) (omega (arith, product)) (λ e. omega arith) (omega arith) (c.next_power_of_two.ensures.power, c.next_power_of_two.ensures.lower_bound, c.next_power_of_two.ensures.upper_bound)

use Rattle.std.proofs.Common.{◌<◌, length, ap, arith}
use Rattle.std.proofs.lemmas.Bool.Decides.{nat_tests}
use Rattle.stock.proofs.Moving.{opens}
use Rattle.stock.proofs.CacheSteps.{has_exactly}
use Rattle.stock.proofs.stocks.Stock.has_cache.Goals as goal

pub returns : goal.returns
returns g c =
    let within : c.args.arena < length c.args.self.now = (let e = ap length c.self.view_is in omega arith) in
    let o = opens c.args.self.now c.self.inside.spaces.items c.args.arena (record { arena = c.space.inside.arena; source = c.space.inside.source; caches = c.space.inside.caches.items }) c.index-space.result.now c.self.view_is within c.index-space.ensures c.space.view_is in
    let iff = has_exactly c.args.self.now c.args.arena _ c.args.cache o.at in
    ((λ is. iff.0 (grind (arith, nat_tests))), (λ has. (let lt = iff.1 has in grind (arith, nat_tests))))

use Rattle.std.proofs.Common.{◌<◌, ◌-◌, ap, length, arith}
use Rattle.stock.proofs.Moving.{opens}
use Rattle.stock.proofs.CacheSteps.{has_cache}
use Rattle.stock.proofs.stocks.Stock.cache_at.Goals as goal

pub returns-clause-some : goal.returns-clause-some
returns-clause-some g c =
    let within : c.args.arena < length c.args.self.now = (let e = ap length c.self.view_is in omega arith) in
    let o = opens c.args.self.now c.self.inside.spaces.items c.args.arena (record { arena = c.space.inside.arena; source = c.space.inside.source; caches = c.space.inside.caches.items }) c.index-space.result.now c.self.view_is within c.index-space.ensures c.space.view_is in
    ((omega arith), has_cache c.args.self.now c.args.arena _ (c.args.k - 1) o.at (omega arith))

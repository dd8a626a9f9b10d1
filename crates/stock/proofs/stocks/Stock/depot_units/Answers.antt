use Rattle.std.proofs.Common.{◌≡◌, ◌*◌, ◌+◌, min, subst, sym, ap, ◌∙◌, mul_comm}
use Rattle.deed_core.specs.Covering.{units_tagged}
use Rattle.magazine_layer.specs.Depots.{depot_rounds}
use Rattle.stock.specs.Stocks.{IsStock}
use Rattle.stock.proofs.Moving.{opens}
use Rattle.stock.proofs.CacheSteps.{index_within, number_within, opens_cache, at_cache}
use Rattle.stock.proofs.Summing.{rounds_alike}
use Rattle.stock.proofs.stocks.Stock.depot_units.Goals as goal

pub returns : goal.returns
returns g c =
    let o = opens c.args.self.now c.self.inside.spaces.items c.args.arena (record { arena = c.space.inside.arena; source = c.space.inside.source; caches = c.space.inside.caches.items }) c.index-space.result.now c.self.view_is (index_within _ _ _ c.requires.has) c.index-space.ensures c.space.view_is in
    let p = opens_cache c.args.self.now c.self.inside.spaces.items c.args.arena (record { arena = c.space.inside.arena; source = c.space.inside.source; caches = c.space.inside.caches.items }) c.args.cache (record { slab = c.opened.inside.slab; depot = c.opened.inside.depot }) c.index-opened.result.now o (number_within _ _ _ _ c.requires.has o.at) c.index-opened.ensures c.opened.view_is in
    let stock = subst IsStock c.self.view_is c.self.invariant in
    let is = (stock c.args.arena _ o.at).caches c.args.cache _ p.among in
    let units = c.rounds.ensures.units ((c.args.cache + 1) * c.space.inside.arena.quantum) (rounds_alike c.args.arena (c.args.cache + 1) c.space.inside.arena.quantum (depot_rounds c.opened.inside.depot) is.rounds) in
    let quantum : c.from.result ≡ c.space.inside.arena.quantum = c.from.ensures ∙ c.quantum.ensures.value in
    let chunk : c.from.result * (c.args.cache + 1) ≡ (c.args.cache + 1) * c.space.inside.arena.quantum = ap (λ n. n * (c.args.cache + 1)) quantum ∙ mul_comm c.space.inside.arena.quantum (c.args.cache + 1) in
    record {
      value = at_cache _ _ _ _ _ _ p (λ x. c.saturating_mul.result ≡ min (units_tagged (depot_rounds x.depot)) 340282366920938463463374607431768211455)
          (c.saturating_mul.ensures ∙ ap (λ n. min (c.rounds.result * n) 340282366920938463463374607431768211455) chunk ∙ ap (λ n. min n 340282366920938463463374607431768211455) (sym units));
    }

use Rattle.stock.specs.OwnCaches.{own_rounds}
use Rattle.world_core.proofs.GoingHome.{last_ends}
use Rattle.world_core.proofs.closings.end_caches.Goals as goal

pub end_cache-requires : goal.end_cache-requires
end_cache-requires c =
    let (others, out) = c.requires in
    (_, last_ends own_rounds c.loop-own.stock c.loop-own.caches.items c.pop.new.self.items c.in-Some.own c.in-Some.ensures.items others (c.loop-own.invariant others out))

pub loop-own-preserved : goal.loop-own-preserved
loop-own-preserved c = λ others acc. c.end_cache.ensures _ (last_ends own_rounds c.loop-own.stock c.loop-own.caches.items c.pop.new.self.items c.in-Some.own c.in-Some.ensures.items others (c.loop-own.invariant others acc))

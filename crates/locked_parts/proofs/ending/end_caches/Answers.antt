use Rattle.locked_parts.proofs.Stands.{front_before, front_back}
use Rattle.locked_parts.proofs.ending.end_caches.Goals as goal

pub returns-in-Err-clause-front : goal.returns-in-Err-clause-front
returns-in-Err-clause-front g c = front_back _ _ c.pop.new.self.items c.in-Some.cache _ _ c.in-Err.ensures c.in-Some.ensures.items c.push_reserved.ensures.items c.loop-cache.invariant

pub loop-cache-preserved : goal.loop-cache-preserved
loop-cache-preserved g c = front_before _ _ c.pop.new.self.items c.in-Some.cache c.in-Some.ensures.items c.loop-cache.invariant

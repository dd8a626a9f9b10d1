use Rattle.stock.proofs.OwnRounds.{left}
use Rattle.stock.proofs.own_caches.OwnCache.pop.Goals as goal

pub invariant_of-self : goal.invariant_of-self
invariant_of-self g c =
    record { some = c.self.invariant.some; rounds = left c.self.inside.arena c.self.inside.cache c.self.inside.quantum c.self.inside.cpu c.take.new.self c.self.invariant.rounds c.take.result c.take.ensures.kinds }

use Rattle.stock.proofs.OwnRounds.{changed}
use Rattle.stock.proofs.own_caches.OwnCache.change.Goals as goal

pub invariant_of-self : goal.invariant_of-self
invariant_of-self g c =
    record { some = c.self.invariant.some; rounds = changed c.self.inside.arena c.self.inside.cache c.self.inside.quantum c.self.inside.cpu c.change.new.self c.self.invariant.rounds c.change.ensures.kinds }

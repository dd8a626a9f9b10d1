use Rattle.std.proofs.Common.{sym, subst}
use Rattle.stock.specs.Steps.{AreRoundsOf}
use Rattle.stock.proofs.own_caches.OwnCache.close.Goals as goal

pub invariant_of-result : goal.invariant_of-result
invariant_of-result g c =
    record {
      some = c.self.invariant.some;
      rounds = subst (AreRoundsOf c.self.inside.arena c.self.inside.cache c.self.inside.quantum) (sym c.in-Err.ensures.of.1) c.self.invariant.rounds;
    }

use Rattle.std.proofs.Common.{◌+◌, sym, subst}
use Rattle.stock.specs.Stocks.{IsRoundOf}
use Rattle.stock.specs.OwnCaches.{OwnCacheState}
use Rattle.stock.proofs.OwnRounds.{kept}
use Rattle.stock.proofs.own_caches.OwnCache.push.Goals as goal

pub invariant_of-self : goal.invariant_of-self
invariant_of-self g c =
    record {
      some = c.self.invariant.some;
      rounds = kept c.self.inside.arena c.self.inside.cache c.self.inside.quantum c.self.inside.cpu c.give.new.self c.self.invariant.rounds c.args.segment c.give.ensures.kinds (subst (λ (o : OwnCacheState). IsRoundOf o.arena (o.cache + 1) o.quantum c.args.segment) (sym c.self.view_is) c.requires.chunk);
    }

use Rattle.std.proofs.Common.{sym, subst}
use Rattle.magazine_layer.specs.Calls.{SwapFullOf}
use Rattle.stock.specs.OwnCaches.{OwnCacheState}
use Rattle.stock.specs.Spaces.{HasCache}
use Rattle.stock.specs.Steps.{OnDepot, HasQuantum}
use Rattle.stock.proofs.OwnRounds.{are_own_rounds}
use Rattle.stock.proofs.own_caches.OwnCache.swap_full.Goals as goal

pub returns-clause-swapped : goal.returns-clause-swapped
returns-clause-swapped g c =
    subst (λ (o : OwnCacheState). OnDepot o.arena o.cache (λ a b. SwapFullOf o.cpu a c.swap_full.result c.swap_full.new.cpu b) c.args.stock.now c.swap_full.new.self) c.self.view_is c.swap_full.ensures.swapped

pub invariant_of-self : goal.invariant_of-self
invariant_of-self g c =
    let has = subst (λ (o : OwnCacheState). HasCache c.args.stock.now o.arena o.cache) (sym c.self.view_is) c.requires.has in
    let is = subst (λ (o : OwnCacheState). HasQuantum c.args.stock.now o.arena o.quantum) (sym c.self.view_is) c.requires.quantum in
    record { some = c.self.invariant.some; rounds = are_own_rounds c.args.stock.now c.self.inside.arena c.self.inside.cache c.self.inside.quantum c.swap_full.new.cpu has is c.swap_full.ensures.rounds }

pub returns-clause-shape : goal.returns-clause-shape
returns-clause-shape g c = c.swap_full.ensures.shape

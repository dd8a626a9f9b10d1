use Rattle.std.proofs.Common.{sym, subst}
use Rattle.magazine_layer.specs.Calls.{SwapEmptyOf}
use Rattle.stock.specs.OwnCaches.{OwnCacheState}
use Rattle.stock.specs.Spaces.{HasCache}
use Rattle.stock.specs.Steps.{OnDepot, HasQuantum}
use Rattle.stock.proofs.OwnRounds.{are_own_rounds, rounds_in}
use Rattle.stock.proofs.own_caches.OwnCache.swap_empty.Goals as goal

pub returns-clause-swapped : goal.returns-clause-swapped
returns-clause-swapped g c =
    subst (λ (o : OwnCacheState). OnDepot o.arena o.cache (λ a b. SwapEmptyOf o.cpu a c.swap_empty.result c.swap_empty.new.cpu b) c.args.stock.now c.swap_empty.new.self) c.self.view_is c.swap_empty.ensures.swapped

pub invariant_of-self : goal.invariant_of-self
invariant_of-self g c =
    let has = subst (λ (o : OwnCacheState). HasCache c.args.stock.now o.arena o.cache) (sym c.self.view_is) c.requires.has in
    let is = subst (λ (o : OwnCacheState). HasQuantum c.args.stock.now o.arena o.quantum) (sym c.self.view_is) c.requires.quantum in
    record { some = c.self.invariant.some; rounds = are_own_rounds c.args.stock.now c.self.inside.arena c.self.inside.cache c.self.inside.quantum c.swap_empty.new.cpu has is c.swap_empty.ensures.rounds }

pub swap_empty-requires-clause-rounds : goal.swap_empty-requires-clause-rounds
swap_empty-requires-clause-rounds g c =
    let is = subst (λ (o : OwnCacheState). HasQuantum c.args.stock.now o.arena o.quantum) (sym c.self.view_is) c.requires.quantum in
    rounds_in c.args.stock.now c.self.inside.arena c.self.inside.cache c.self.inside.quantum c.self.inside.cpu is c.self.invariant.rounds

pub returns-clause-shape : goal.returns-clause-shape
returns-clause-shape g c = c.swap_empty.ensures.shape

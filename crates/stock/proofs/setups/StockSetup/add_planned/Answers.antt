use Rattle.std.proofs.Common.{◌≡◌, subst, sym, Some}
use Rattle.std.specs.Prelude.{slice_get}
use Rattle.deed_core.proofs.LawProofs.{power_some}
use Rattle.stock.specs.Spaces.{SpaceState}
use Rattle.stock.specs.Steps.{HasRoomForCache, GainsCache}
use Rattle.stock.proofs.Planning.{can, more}
use Rattle.stock.proofs.setups.StockSetup.add_planned.Goals as goal

pub add_cache-requires-clause-can : goal.add_cache-requires-clause-can
add_cache-requires-clause-can g c =
    let i = c.loop-cache.invariant in
    subst (λ k. (s : SpaceState) → slice_get c.loop-cache.self k ≡ Some s → HasRoomForCache c.args.arena.now.slab_size s) (sym i.at)
    (can c.args.rounds c.args.arena.now c.args.self.now c.loop-cache.self c.loop-cache._cache i.is c.requires.caches (power_some c.args.arena.now.quantum c.requires.power) c.loop-cache-test.true)

pub loop-cache-preserved : goal.loop-cache-preserved
loop-cache-preserved g c =
    let i = c.loop-cache.invariant in
    let gains = subst (λ k. GainsCache k c.args.arena.now.slab_size c.args.rounds c.loop-cache.self c.add_cache.new.self) i.at c.in_ok-add_cache.ensures.added in
    record { at = i.at; is = more c.args.rounds c.args.arena.now c.args.self.now c.loop-cache.self c.loop-cache._cache i.is c.add_cache.new.self gains }

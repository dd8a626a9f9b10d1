use Rattle.std.proofs.Common.{subst}
use Rattle.stock.specs.Stocks.{IsStock}
use Rattle.stock.proofs.Moving.{opens}
use Rattle.stock.proofs.CacheSteps.{index_within, number_within, opens_cache}
use Rattle.stock.proofs.DepotCalls.{on_depot, same_moves}
use Rattle.magazine_layer.specs.Calls.{ResizeOf}
use Rattle.stock.proofs.stocks.Stock.resize.Goals as goal

pub invariant_of-self : goal.invariant_of-self
invariant_of-self g c =
    let o = opens c.args.self.now c.self.inside.spaces.items c.args.arena (record { arena = c.space.inside.arena; source = c.space.inside.source; caches = c.space.inside.caches.items }) c.index_mut-space.result.now c.self.view_is (index_within _ _ _ c.requires.has) c.index_mut-space.ensures.value c.space.view_is in
    let p = opens_cache c.args.self.now c.self.inside.spaces.items c.args.arena (record { arena = c.space.inside.arena; source = c.space.inside.source; caches = c.space.inside.caches.items }) c.args.cache (record { slab = c.opened.inside.slab; depot = c.opened.inside.depot }) c.index_mut-opened.result.now o (number_within _ _ _ _ c.requires.has o.at) c.index_mut-opened.ensures.value c.opened.view_is in
    let m = same_moves _ _ _ _ _ _ p c.resize.new.self (subst IsStock c.self.view_is c.self.invariant) c.resize.ensures.sound c.resize.ensures.weights in
    m.stock

pub returns-clause-frame : goal.returns-clause-frame
returns-clause-frame g c =
    let o = opens c.args.self.now c.self.inside.spaces.items c.args.arena (record { arena = c.space.inside.arena; source = c.space.inside.source; caches = c.space.inside.caches.items }) c.index_mut-space.result.now c.self.view_is (index_within _ _ _ c.requires.has) c.index_mut-space.ensures.value c.space.view_is in
    let p = opens_cache c.args.self.now c.self.inside.spaces.items c.args.arena (record { arena = c.space.inside.arena; source = c.space.inside.source; caches = c.space.inside.caches.items }) c.args.cache (record { slab = c.opened.inside.slab; depot = c.opened.inside.depot }) c.index_mut-opened.result.now o (number_within _ _ _ _ c.requires.has o.at) c.index_mut-opened.ensures.value c.opened.view_is in
    let m = same_moves _ _ _ _ _ _ p c.resize.new.self (subst IsStock c.self.view_is c.self.invariant) c.resize.ensures.sound c.resize.ensures.weights in
    m.frame

pub returns-clause-fixed : goal.returns-clause-fixed
returns-clause-fixed g c =
    let o = opens c.args.self.now c.self.inside.spaces.items c.args.arena (record { arena = c.space.inside.arena; source = c.space.inside.source; caches = c.space.inside.caches.items }) c.index_mut-space.result.now c.self.view_is (index_within _ _ _ c.requires.has) c.index_mut-space.ensures.value c.space.view_is in
    let p = opens_cache c.args.self.now c.self.inside.spaces.items c.args.arena (record { arena = c.space.inside.arena; source = c.space.inside.source; caches = c.space.inside.caches.items }) c.args.cache (record { slab = c.opened.inside.slab; depot = c.opened.inside.depot }) c.index_mut-opened.result.now o (number_within _ _ _ _ c.requires.has o.at) c.index_mut-opened.ensures.value c.opened.view_is in
    let m = same_moves _ _ _ _ _ _ p c.resize.new.self (subst IsStock c.self.view_is c.self.invariant) c.resize.ensures.sound c.resize.ensures.weights in
    m.fixed

pub returns-clause-resized : goal.returns-clause-resized
returns-clause-resized g c =
    let o = opens c.args.self.now c.self.inside.spaces.items c.args.arena (record { arena = c.space.inside.arena; source = c.space.inside.source; caches = c.space.inside.caches.items }) c.index_mut-space.result.now c.self.view_is (index_within _ _ _ c.requires.has) c.index_mut-space.ensures.value c.space.view_is in
    let p = opens_cache c.args.self.now c.self.inside.spaces.items c.args.arena (record { arena = c.space.inside.arena; source = c.space.inside.source; caches = c.space.inside.caches.items }) c.args.cache (record { slab = c.opened.inside.slab; depot = c.opened.inside.depot }) c.index_mut-opened.result.now o (number_within _ _ _ _ c.requires.has o.at) c.index_mut-opened.ensures.value c.opened.view_is in
    on_depot _ _ _ _ _ _ p c.resize.new.self (λ a b. ResizeOf a c.args.size c.resize.result b) c.resize.ensures.of

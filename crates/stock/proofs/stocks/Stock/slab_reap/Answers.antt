use Rattle.std.proofs.Common.{subst}
use Rattle.stock.specs.Stocks.{IsStock}
use Rattle.stock.proofs.Moving.{opens}
use Rattle.stock.proofs.CacheSteps.{index_within, number_within, opens_cache}
use Rattle.slab_layer.specs.Calls.{ReapOf}
use Rattle.stock.proofs.SlabCalls.{on_slab, reap_moves}
use Rattle.stock.proofs.stocks.Stock.slab_reap.Goals as goal

pub invariant_of-self : goal.invariant_of-self
invariant_of-self g c =
    let o = opens c.args.self.now c.self.inside.spaces.items c.args.arena (record { arena = c.space.inside.arena; source = c.space.inside.source; caches = c.space.inside.caches.items }) c.index_mut-space.result.now c.self.view_is (index_within _ _ _ c.requires.has) c.index_mut-space.ensures.value c.space.view_is in
    let p = opens_cache c.args.self.now c.self.inside.spaces.items c.args.arena (record { arena = c.space.inside.arena; source = c.space.inside.source; caches = c.space.inside.caches.items }) c.args.cache (record { slab = c.opened.inside.slab; depot = c.opened.inside.depot }) c.index_mut-opened.result.now o (number_within _ _ _ _ c.requires.has o.at) c.index_mut-opened.ensures.value c.opened.view_is in
    let m = reap_moves _ _ _ _ _ _ p c.reap.new.self (subst IsStock c.self.view_is c.self.invariant) c.reap.ensures.sound c.reap.ensures.alike c.reap.result c.reap.ensures.reaped c.reap.ensures.span c.reap.ensures.out c.reap.ensures.deeds c.reap.ensures.spans in
    m.stock

pub returns-clause-frame : goal.returns-clause-frame
returns-clause-frame g c =
    let o = opens c.args.self.now c.self.inside.spaces.items c.args.arena (record { arena = c.space.inside.arena; source = c.space.inside.source; caches = c.space.inside.caches.items }) c.index_mut-space.result.now c.self.view_is (index_within _ _ _ c.requires.has) c.index_mut-space.ensures.value c.space.view_is in
    let p = opens_cache c.args.self.now c.self.inside.spaces.items c.args.arena (record { arena = c.space.inside.arena; source = c.space.inside.source; caches = c.space.inside.caches.items }) c.args.cache (record { slab = c.opened.inside.slab; depot = c.opened.inside.depot }) c.index_mut-opened.result.now o (number_within _ _ _ _ c.requires.has o.at) c.index_mut-opened.ensures.value c.opened.view_is in
    let m = reap_moves _ _ _ _ _ _ p c.reap.new.self (subst IsStock c.self.view_is c.self.invariant) c.reap.ensures.sound c.reap.ensures.alike c.reap.result c.reap.ensures.reaped c.reap.ensures.span c.reap.ensures.out c.reap.ensures.deeds c.reap.ensures.spans in
    m.frame

pub returns-clause-fixed : goal.returns-clause-fixed
returns-clause-fixed g c =
    let o = opens c.args.self.now c.self.inside.spaces.items c.args.arena (record { arena = c.space.inside.arena; source = c.space.inside.source; caches = c.space.inside.caches.items }) c.index_mut-space.result.now c.self.view_is (index_within _ _ _ c.requires.has) c.index_mut-space.ensures.value c.space.view_is in
    let p = opens_cache c.args.self.now c.self.inside.spaces.items c.args.arena (record { arena = c.space.inside.arena; source = c.space.inside.source; caches = c.space.inside.caches.items }) c.args.cache (record { slab = c.opened.inside.slab; depot = c.opened.inside.depot }) c.index_mut-opened.result.now o (number_within _ _ _ _ c.requires.has o.at) c.index_mut-opened.ensures.value c.opened.view_is in
    let m = reap_moves _ _ _ _ _ _ p c.reap.new.self (subst IsStock c.self.view_is c.self.invariant) c.reap.ensures.sound c.reap.ensures.alike c.reap.result c.reap.ensures.reaped c.reap.ensures.span c.reap.ensures.out c.reap.ensures.deeds c.reap.ensures.spans in
    m.fixed

pub returns-clause-reaped : goal.returns-clause-reaped
returns-clause-reaped g c =
    let o = opens c.args.self.now c.self.inside.spaces.items c.args.arena (record { arena = c.space.inside.arena; source = c.space.inside.source; caches = c.space.inside.caches.items }) c.index_mut-space.result.now c.self.view_is (index_within _ _ _ c.requires.has) c.index_mut-space.ensures.value c.space.view_is in
    let p = opens_cache c.args.self.now c.self.inside.spaces.items c.args.arena (record { arena = c.space.inside.arena; source = c.space.inside.source; caches = c.space.inside.caches.items }) c.args.cache (record { slab = c.opened.inside.slab; depot = c.opened.inside.depot }) c.index_mut-opened.result.now o (number_within _ _ _ _ c.requires.has o.at) c.index_mut-opened.ensures.value c.opened.view_is in
    on_slab _ _ _ _ _ _ p c.reap.new.self (λ a b. ReapOf a c.reap.result b) c.reap.ensures.reaped

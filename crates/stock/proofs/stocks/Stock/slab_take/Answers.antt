use Rattle.std.proofs.Common.{subst}
use Rattle.stock.specs.Stocks.{IsStock}
use Rattle.stock.proofs.Moving.{opens}
use Rattle.stock.proofs.CacheSteps.{index_within, number_within, opens_cache}
use Rattle.slab_layer.specs.Calls.{TakeOf}
use Rattle.stock.proofs.SlabCalls.{on_slab, take_moves, take_chunk}
use Rattle.stock.proofs.stocks.Stock.slab_take.Goals as goal

pub invariant_of-self : goal.invariant_of-self
invariant_of-self g c =
    let o = opens c.args.self.now c.self.inside.spaces.items c.args.arena (record { arena = c.space.inside.arena; source = c.space.inside.source; caches = c.space.inside.caches.items }) c.index_mut-space.result.now c.self.view_is (index_within _ _ _ c.requires.has) c.index_mut-space.ensures.value c.space.view_is in
    let p = opens_cache c.args.self.now c.self.inside.spaces.items c.args.arena (record { arena = c.space.inside.arena; source = c.space.inside.source; caches = c.space.inside.caches.items }) c.args.cache (record { slab = c.opened.inside.slab; depot = c.opened.inside.depot }) c.index_mut-opened.result.now o (number_within _ _ _ _ c.requires.has o.at) c.index_mut-opened.ensures.value c.opened.view_is in
    let m = take_moves _ _ _ _ _ _ p c.take.new.self (subst IsStock c.self.view_is c.self.invariant) c.take.ensures.sound c.take.ensures.alike c.take.result c.take.ensures.taken c.take.ensures.chunk c.take.ensures.out c.take.ensures.deeds c.take.ensures.spans in
    m.stock

pub returns-clause-frame : goal.returns-clause-frame
returns-clause-frame g c =
    let o = opens c.args.self.now c.self.inside.spaces.items c.args.arena (record { arena = c.space.inside.arena; source = c.space.inside.source; caches = c.space.inside.caches.items }) c.index_mut-space.result.now c.self.view_is (index_within _ _ _ c.requires.has) c.index_mut-space.ensures.value c.space.view_is in
    let p = opens_cache c.args.self.now c.self.inside.spaces.items c.args.arena (record { arena = c.space.inside.arena; source = c.space.inside.source; caches = c.space.inside.caches.items }) c.args.cache (record { slab = c.opened.inside.slab; depot = c.opened.inside.depot }) c.index_mut-opened.result.now o (number_within _ _ _ _ c.requires.has o.at) c.index_mut-opened.ensures.value c.opened.view_is in
    let m = take_moves _ _ _ _ _ _ p c.take.new.self (subst IsStock c.self.view_is c.self.invariant) c.take.ensures.sound c.take.ensures.alike c.take.result c.take.ensures.taken c.take.ensures.chunk c.take.ensures.out c.take.ensures.deeds c.take.ensures.spans in
    m.frame

pub returns-clause-fixed : goal.returns-clause-fixed
returns-clause-fixed g c =
    let o = opens c.args.self.now c.self.inside.spaces.items c.args.arena (record { arena = c.space.inside.arena; source = c.space.inside.source; caches = c.space.inside.caches.items }) c.index_mut-space.result.now c.self.view_is (index_within _ _ _ c.requires.has) c.index_mut-space.ensures.value c.space.view_is in
    let p = opens_cache c.args.self.now c.self.inside.spaces.items c.args.arena (record { arena = c.space.inside.arena; source = c.space.inside.source; caches = c.space.inside.caches.items }) c.args.cache (record { slab = c.opened.inside.slab; depot = c.opened.inside.depot }) c.index_mut-opened.result.now o (number_within _ _ _ _ c.requires.has o.at) c.index_mut-opened.ensures.value c.opened.view_is in
    let m = take_moves _ _ _ _ _ _ p c.take.new.self (subst IsStock c.self.view_is c.self.invariant) c.take.ensures.sound c.take.ensures.alike c.take.result c.take.ensures.taken c.take.ensures.chunk c.take.ensures.out c.take.ensures.deeds c.take.ensures.spans in
    m.fixed

pub returns-clause-chunk : goal.returns-clause-chunk
returns-clause-chunk g c =
    let o = opens c.args.self.now c.self.inside.spaces.items c.args.arena (record { arena = c.space.inside.arena; source = c.space.inside.source; caches = c.space.inside.caches.items }) c.index_mut-space.result.now c.self.view_is (index_within _ _ _ c.requires.has) c.index_mut-space.ensures.value c.space.view_is in
    let p = opens_cache c.args.self.now c.self.inside.spaces.items c.args.arena (record { arena = c.space.inside.arena; source = c.space.inside.source; caches = c.space.inside.caches.items }) c.args.cache (record { slab = c.opened.inside.slab; depot = c.opened.inside.depot }) c.index_mut-opened.result.now o (number_within _ _ _ _ c.requires.has o.at) c.index_mut-opened.ensures.value c.opened.view_is in
    take_chunk _ _ _ _ _ _ p c.take.new.self (subst IsStock c.self.view_is c.self.invariant) c.take.result c.take.ensures.chunk

pub returns-clause-taken : goal.returns-clause-taken
returns-clause-taken g c =
    let o = opens c.args.self.now c.self.inside.spaces.items c.args.arena (record { arena = c.space.inside.arena; source = c.space.inside.source; caches = c.space.inside.caches.items }) c.index_mut-space.result.now c.self.view_is (index_within _ _ _ c.requires.has) c.index_mut-space.ensures.value c.space.view_is in
    let p = opens_cache c.args.self.now c.self.inside.spaces.items c.args.arena (record { arena = c.space.inside.arena; source = c.space.inside.source; caches = c.space.inside.caches.items }) c.args.cache (record { slab = c.opened.inside.slab; depot = c.opened.inside.depot }) c.index_mut-opened.result.now o (number_within _ _ _ _ c.requires.has o.at) c.index_mut-opened.ensures.value c.opened.view_is in
    on_slab _ _ _ _ _ _ p c.take.new.self (λ a b. TakeOf a c.take.result b) c.take.ensures.taken

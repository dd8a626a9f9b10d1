use Rattle.std.proofs.Common.{◌≡◌, ◌%◌, sym, subst, ◌∙◌}
use Rattle.stock.specs.Stocks.{IsStock}
use Rattle.stock.proofs.Moving.{opens}
use Rattle.stock.proofs.CacheSteps.{index_within, number_within, opens_cache}
use Rattle.slab_layer.specs.Calls.{AddOf}
use Rattle.stock.proofs.SlabCalls.{on_slab, add_moves, add_never, add_chunk}
use Rattle.stock.proofs.stocks.Stock.slab_add.Goals as goal

pub invariant_of-self : goal.invariant_of-self
invariant_of-self g c =
    let o = opens c.args.self.now c.self.inside.spaces.items c.args.arena (record { arena = c.space.inside.arena; source = c.space.inside.source; caches = c.space.inside.caches.items }) c.index_mut-space.result.now c.self.view_is (index_within _ _ _ c.requires.has) c.index_mut-space.ensures.value c.space.view_is in
    let p = opens_cache c.args.self.now c.self.inside.spaces.items c.args.arena (record { arena = c.space.inside.arena; source = c.space.inside.source; caches = c.space.inside.caches.items }) c.args.cache (record { slab = c.opened.inside.slab; depot = c.opened.inside.depot }) c.index_mut-opened.result.now o (number_within _ _ _ _ c.requires.has o.at) c.index_mut-opened.ensures.value c.opened.view_is in
    let m = add_moves _ _ _ _ _ _ p c.add.new.self (subst IsStock c.self.view_is c.self.invariant) c.add.ensures.sound c.add.ensures.alike c.args.span c.requires.span.1 c.add.result c.add.ensures.added c.add.ensures.chunk c.add.ensures.out c.add.ensures.deeds c.add.ensures.spans in
    m.stock

pub returns-clause-frame : goal.returns-clause-frame
returns-clause-frame g c =
    let o = opens c.args.self.now c.self.inside.spaces.items c.args.arena (record { arena = c.space.inside.arena; source = c.space.inside.source; caches = c.space.inside.caches.items }) c.index_mut-space.result.now c.self.view_is (index_within _ _ _ c.requires.has) c.index_mut-space.ensures.value c.space.view_is in
    let p = opens_cache c.args.self.now c.self.inside.spaces.items c.args.arena (record { arena = c.space.inside.arena; source = c.space.inside.source; caches = c.space.inside.caches.items }) c.args.cache (record { slab = c.opened.inside.slab; depot = c.opened.inside.depot }) c.index_mut-opened.result.now o (number_within _ _ _ _ c.requires.has o.at) c.index_mut-opened.ensures.value c.opened.view_is in
    let m = add_moves _ _ _ _ _ _ p c.add.new.self (subst IsStock c.self.view_is c.self.invariant) c.add.ensures.sound c.add.ensures.alike c.args.span c.requires.span.1 c.add.result c.add.ensures.added c.add.ensures.chunk c.add.ensures.out c.add.ensures.deeds c.add.ensures.spans in
    m.frame

pub returns-clause-fixed : goal.returns-clause-fixed
returns-clause-fixed g c =
    let o = opens c.args.self.now c.self.inside.spaces.items c.args.arena (record { arena = c.space.inside.arena; source = c.space.inside.source; caches = c.space.inside.caches.items }) c.index_mut-space.result.now c.self.view_is (index_within _ _ _ c.requires.has) c.index_mut-space.ensures.value c.space.view_is in
    let p = opens_cache c.args.self.now c.self.inside.spaces.items c.args.arena (record { arena = c.space.inside.arena; source = c.space.inside.source; caches = c.space.inside.caches.items }) c.args.cache (record { slab = c.opened.inside.slab; depot = c.opened.inside.depot }) c.index_mut-opened.result.now o (number_within _ _ _ _ c.requires.has o.at) c.index_mut-opened.ensures.value c.opened.view_is in
    let m = add_moves _ _ _ _ _ _ p c.add.new.self (subst IsStock c.self.view_is c.self.invariant) c.add.ensures.sound c.add.ensures.alike c.args.span c.requires.span.1 c.add.result c.add.ensures.added c.add.ensures.chunk c.add.ensures.out c.add.ensures.deeds c.add.ensures.spans in
    m.fixed

pub returns-clause-chunk : goal.returns-clause-chunk
returns-clause-chunk g c =
    let o = opens c.args.self.now c.self.inside.spaces.items c.args.arena (record { arena = c.space.inside.arena; source = c.space.inside.source; caches = c.space.inside.caches.items }) c.index_mut-space.result.now c.self.view_is (index_within _ _ _ c.requires.has) c.index_mut-space.ensures.value c.space.view_is in
    let p = opens_cache c.args.self.now c.self.inside.spaces.items c.args.arena (record { arena = c.space.inside.arena; source = c.space.inside.source; caches = c.space.inside.caches.items }) c.args.cache (record { slab = c.opened.inside.slab; depot = c.opened.inside.depot }) c.index_mut-opened.result.now o (number_within _ _ _ _ c.requires.has o.at) c.index_mut-opened.ensures.value c.opened.view_is in
    add_chunk _ _ _ _ _ _ p c.add.new.self (subst IsStock c.self.view_is c.self.invariant) c.add.result c.add.ensures.chunk

pub returns-clause-added : goal.returns-clause-added
returns-clause-added g c =
    let o = opens c.args.self.now c.self.inside.spaces.items c.args.arena (record { arena = c.space.inside.arena; source = c.space.inside.source; caches = c.space.inside.caches.items }) c.index_mut-space.result.now c.self.view_is (index_within _ _ _ c.requires.has) c.index_mut-space.ensures.value c.space.view_is in
    let p = opens_cache c.args.self.now c.self.inside.spaces.items c.args.arena (record { arena = c.space.inside.arena; source = c.space.inside.source; caches = c.space.inside.caches.items }) c.args.cache (record { slab = c.opened.inside.slab; depot = c.opened.inside.depot }) c.index_mut-opened.result.now o (number_within _ _ _ _ c.requires.has o.at) c.index_mut-opened.ensures.value c.opened.view_is in
    on_slab _ _ _ _ _ _ p c.add.new.self (λ a b. AddOf a c.args.span c.add.result b) c.add.ensures.added

pub add-requires : goal.add-requires
add-requires g c =
    let o = opens c.args.self.now c.self.inside.spaces.items c.args.arena (record { arena = c.space.inside.arena; source = c.space.inside.source; caches = c.space.inside.caches.items }) c.index_mut-space.result.now c.self.view_is (index_within _ _ _ c.requires.has) c.index_mut-space.ensures.value c.space.view_is in
    let p = opens_cache c.args.self.now c.self.inside.spaces.items c.args.arena (record { arena = c.space.inside.arena; source = c.space.inside.source; caches = c.space.inside.caches.items }) c.args.cache (record { slab = c.opened.inside.slab; depot = c.opened.inside.depot }) c.index_mut-opened.result.now o (number_within _ _ _ _ c.requires.has o.at) c.index_mut-opened.ensures.value c.opened.view_is in
    let cache = ((subst IsStock c.self.view_is c.self.invariant) _ _ o.at).caches _ _ p.among in
    record {
      span = record {
        arena = c.requires.span.0 ∙ sym cache.arena;
        route = c.requires.span.1;
        grid = subst (λ q. c.args.span.holding.range.base % q ≡ 0) (sym cache.quantum_is) (c.requires.grid _ o.at);
      };
    }

pub returns-clause-never : goal.returns-clause-never
returns-clause-never g c rest a =
    let o = opens c.args.self.now c.self.inside.spaces.items c.args.arena (record { arena = c.space.inside.arena; source = c.space.inside.source; caches = c.space.inside.caches.items }) c.index_mut-space.result.now c.self.view_is (index_within _ _ _ c.requires.has) c.index_mut-space.ensures.value c.space.view_is in
    let p = opens_cache c.args.self.now c.self.inside.spaces.items c.args.arena (record { arena = c.space.inside.arena; source = c.space.inside.source; caches = c.space.inside.caches.items }) c.args.cache (record { slab = c.opened.inside.slab; depot = c.opened.inside.depot }) c.index_mut-opened.result.now o (number_within _ _ _ _ c.requires.has o.at) c.index_mut-opened.ensures.value c.opened.view_is in
    add_never _ _ _ _ _ _ p c.add.new.self (subst IsStock c.self.view_is c.self.invariant) c.args.span c.requires.span.0 c.requires.span.1 c.add.result c.add.ensures.added rest a

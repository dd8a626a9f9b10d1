use Rattle.std.proofs.Common.{◌≡◌, ◌+◌, subst, ap, length, inr, refl, arith}
use Rattle.deed_core.specs.declared.segments.Route.TheVariants.{Cached}
use Rattle.stock.specs.Spaces.{HasCache}
use Rattle.stock.specs.Stocks.{IsStock}
use Rattle.stock.proofs.Moving.{opens}
use Rattle.stock.proofs.CacheSteps.{index_within, number_within, opens_cache}
use Rattle.stock.proofs.SlabCalls.{put_in, put_moves, put_never, none_never}
use Rattle.stock.proofs.stocks.Stock.slab_put.Goals as goal

pub invariant_of-self : goal.invariant_of-self
invariant_of-self g c =
    let home : c.args.segment.arena ≡ c.in-Some.arena = c.in-Some.ensures.some.0 in
    let route : c.args.segment.route ≡ Cached (c.in-Some.cache + 1) = c.in-Some.ensures.some.1 in
    let has : HasCache c.args.self.now c.in-Some.arena c.in-Some.cache = c.in-Some.ensures.some.2 in
    let o = opens c.args.self.now c.self.inside.spaces.items c.in-Some.arena (record { arena = c.space.inside.arena; source = c.space.inside.source; caches = c.space.inside.caches.items }) c.index_mut-space.result.now c.self.view_is (index_within _ _ _ has) c.index_mut-space.ensures.value c.space.view_is in
    let p = opens_cache c.args.self.now c.self.inside.spaces.items c.in-Some.arena (record { arena = c.space.inside.arena; source = c.space.inside.source; caches = c.space.inside.caches.items }) c.in-Some.cache (record { slab = c.opened.inside.slab; depot = c.opened.inside.depot }) c.index_mut-opened.result.now o (number_within _ _ _ _ has o.at) c.index_mut-opened.ensures.value c.opened.view_is in
    let m = put_moves _ _ _ _ _ _ p c.put.new.self (subst IsStock c.self.view_is c.self.invariant) c.put.ensures.sound c.put.ensures.alike c.args.segment c.put.result c.put.ensures.put (c.in-Some.cache + 1) route c.put.ensures.out c.put.ensures.deeds c.put.ensures.spans in
    m.stock

pub returns-clause-frame : goal.returns-clause-frame
returns-clause-frame g c =
    let home : c.args.segment.arena ≡ c.in-Some.arena = c.in-Some.ensures.some.0 in
    let route : c.args.segment.route ≡ Cached (c.in-Some.cache + 1) = c.in-Some.ensures.some.1 in
    let has : HasCache c.args.self.now c.in-Some.arena c.in-Some.cache = c.in-Some.ensures.some.2 in
    let o = opens c.args.self.now c.self.inside.spaces.items c.in-Some.arena (record { arena = c.space.inside.arena; source = c.space.inside.source; caches = c.space.inside.caches.items }) c.index_mut-space.result.now c.self.view_is (index_within _ _ _ has) c.index_mut-space.ensures.value c.space.view_is in
    let p = opens_cache c.args.self.now c.self.inside.spaces.items c.in-Some.arena (record { arena = c.space.inside.arena; source = c.space.inside.source; caches = c.space.inside.caches.items }) c.in-Some.cache (record { slab = c.opened.inside.slab; depot = c.opened.inside.depot }) c.index_mut-opened.result.now o (number_within _ _ _ _ has o.at) c.index_mut-opened.ensures.value c.opened.view_is in
    let m = put_moves _ _ _ _ _ _ p c.put.new.self (subst IsStock c.self.view_is c.self.invariant) c.put.ensures.sound c.put.ensures.alike c.args.segment c.put.result c.put.ensures.put (c.in-Some.cache + 1) route c.put.ensures.out c.put.ensures.deeds c.put.ensures.spans in
    m.frame

pub returns-clause-fixed : goal.returns-clause-fixed
returns-clause-fixed g c =
    let home : c.args.segment.arena ≡ c.in-Some.arena = c.in-Some.ensures.some.0 in
    let route : c.args.segment.route ≡ Cached (c.in-Some.cache + 1) = c.in-Some.ensures.some.1 in
    let has : HasCache c.args.self.now c.in-Some.arena c.in-Some.cache = c.in-Some.ensures.some.2 in
    let o = opens c.args.self.now c.self.inside.spaces.items c.in-Some.arena (record { arena = c.space.inside.arena; source = c.space.inside.source; caches = c.space.inside.caches.items }) c.index_mut-space.result.now c.self.view_is (index_within _ _ _ has) c.index_mut-space.ensures.value c.space.view_is in
    let p = opens_cache c.args.self.now c.self.inside.spaces.items c.in-Some.arena (record { arena = c.space.inside.arena; source = c.space.inside.source; caches = c.space.inside.caches.items }) c.in-Some.cache (record { slab = c.opened.inside.slab; depot = c.opened.inside.depot }) c.index_mut-opened.result.now o (number_within _ _ _ _ has o.at) c.index_mut-opened.ensures.value c.opened.view_is in
    let m = put_moves _ _ _ _ _ _ p c.put.new.self (subst IsStock c.self.view_is c.self.invariant) c.put.ensures.sound c.put.ensures.alike c.args.segment c.put.result c.put.ensures.put (c.in-Some.cache + 1) route c.put.ensures.out c.put.ensures.deeds c.put.ensures.spans in
    m.fixed

pub returns-clause-put : goal.returns-clause-put
returns-clause-put g c =
    let home : c.args.segment.arena ≡ c.in-Some.arena = c.in-Some.ensures.some.0 in
    let route : c.args.segment.route ≡ Cached (c.in-Some.cache + 1) = c.in-Some.ensures.some.1 in
    let has : HasCache c.args.self.now c.in-Some.arena c.in-Some.cache = c.in-Some.ensures.some.2 in
    let o = opens c.args.self.now c.self.inside.spaces.items c.in-Some.arena (record { arena = c.space.inside.arena; source = c.space.inside.source; caches = c.space.inside.caches.items }) c.index_mut-space.result.now c.self.view_is (index_within _ _ _ has) c.index_mut-space.ensures.value c.space.view_is in
    let p = opens_cache c.args.self.now c.self.inside.spaces.items c.in-Some.arena (record { arena = c.space.inside.arena; source = c.space.inside.source; caches = c.space.inside.caches.items }) c.in-Some.cache (record { slab = c.opened.inside.slab; depot = c.opened.inside.depot }) c.index_mut-opened.result.now o (number_within _ _ _ _ has o.at) c.index_mut-opened.ensures.value c.opened.view_is in
    put_in _ _ _ _ _ _ p c.put.new.self c.args.segment c.put.result home route c.put.ensures.put

pub returns-clause-never : goal.returns-clause-never
returns-clause-never g c n by rest a =
    let home : c.args.segment.arena ≡ c.in-Some.arena = c.in-Some.ensures.some.0 in
    let route : c.args.segment.route ≡ Cached (c.in-Some.cache + 1) = c.in-Some.ensures.some.1 in
    let has : HasCache c.args.self.now c.in-Some.arena c.in-Some.cache = c.in-Some.ensures.some.2 in
    let o = opens c.args.self.now c.self.inside.spaces.items c.in-Some.arena (record { arena = c.space.inside.arena; source = c.space.inside.source; caches = c.space.inside.caches.items }) c.index_mut-space.result.now c.self.view_is (index_within _ _ _ has) c.index_mut-space.ensures.value c.space.view_is in
    let p = opens_cache c.args.self.now c.self.inside.spaces.items c.in-Some.arena (record { arena = c.space.inside.arena; source = c.space.inside.source; caches = c.space.inside.caches.items }) c.in-Some.cache (record { slab = c.opened.inside.slab; depot = c.opened.inside.depot }) c.index_mut-opened.result.now o (number_within _ _ _ _ has o.at) c.index_mut-opened.ensures.value c.opened.view_is in
    put_never _ _ _ _ _ _ p c.put.new.self (subst IsStock c.self.view_is c.self.invariant) c.args.segment c.put.result home route c.put.ensures.mine n by rest a

pub index_mut-space-requires : goal.index_mut-space-requires
index_mut-space-requires g c =
    let home : c.args.segment.arena ≡ c.in-Some.arena = c.in-Some.ensures.some.0 in
    let route : c.args.segment.route ≡ Cached (c.in-Some.cache + 1) = c.in-Some.ensures.some.1 in
    let has : HasCache c.args.self.now c.in-Some.arena c.in-Some.cache = c.in-Some.ensures.some.2 in
    let e = ap length c.self.view_is in
    let within = index_within _ _ _ has in
    omega (arith, e, within)

pub index_mut-opened-requires : goal.index_mut-opened-requires
index_mut-opened-requires g c =
    let home : c.args.segment.arena ≡ c.in-Some.arena = c.in-Some.ensures.some.0 in
    let route : c.args.segment.route ≡ Cached (c.in-Some.cache + 1) = c.in-Some.ensures.some.1 in
    let has : HasCache c.args.self.now c.in-Some.arena c.in-Some.cache = c.in-Some.ensures.some.2 in
    let o = opens c.args.self.now c.self.inside.spaces.items c.in-Some.arena (record { arena = c.space.inside.arena; source = c.space.inside.source; caches = c.space.inside.caches.items }) c.index_mut-space.result.now c.self.view_is (index_within _ _ _ has) c.index_mut-space.ensures.value c.space.view_is in
    let lt = number_within _ _ _ _ has o.at in
    omega arith

pub returns-in_default-clause-put : goal.returns-in_default-clause-put
returns-in_default-clause-put g c = inr (c.in_default.ensures.none, refl, refl)

pub returns-in_default-clause-never : goal.returns-in_default-clause-never
returns-in_default-clause-never g c n route rest a = absurd (none_never c.args.self.now (subst IsStock c.self.view_is c.self.invariant) c.args.segment c.in_default.ensures.none n route rest a)

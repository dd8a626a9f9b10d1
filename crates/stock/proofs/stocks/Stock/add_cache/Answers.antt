use Rattle.std.proofs.Common.{rules, ◌≡◌, sym, subst, ap, [], ◌∷◌, ◌++◌, length, arith}
use Rattle.slab_layer.specs.Cache.{IsSoundCache}
use Rattle.stock.specs.Stocks.{IsStock}
use Rattle.stock.specs.Steps.{next_cache}
use Rattle.stock.proofs.Moving.{opens}
use Rattle.stock.proofs.Setting.{cache_keeps, cache_balances, same_caches, cache_done}
use Rattle.stock.proofs.stocks.Stock.add_cache.Goals as goal

pub invariant_of-self : goal.invariant_of-self
invariant_of-self g c =
    let o = opens c.args.self.now c.self.inside.spaces.items c.args.arena (record { arena = c.space.inside.arena; source = c.space.inside.source; caches = c.space.inside.caches.items }) c.index_mut-space.result.now c.self.view_is c.requires.within c.index_mut-space.ensures.value c.space.view_is in
    subst IsStock (sym (same_caches _ _ _ _ o c.reserve.new.self.items c.reserve.ensures.items)) (subst IsStock c.self.view_is c.self.invariant)

pub overflow_cast-k : goal.overflow_cast-k
overflow_cast-k g c =
    let o = opens c.args.self.now c.self.inside.spaces.items c.args.arena (record { arena = c.space.inside.arena; source = c.space.inside.source; caches = c.space.inside.caches.items }) c.index_mut-space.result.now c.self.view_is c.requires.within c.index_mut-space.ensures.value c.space.view_is in
    let few = (c.requires.can _ o.at).few in
    let count : length c.reserve.new.self.items ≡ length c.space.inside.caches.items = ap length c.reserve.ensures.items in
    grind arith

pub overflow_add-k : goal.overflow_add-k
overflow_add-k g c =
    let o = opens c.args.self.now c.self.inside.spaces.items c.args.arena (record { arena = c.space.inside.arena; source = c.space.inside.source; caches = c.space.inside.caches.items }) c.index_mut-space.result.now c.self.view_is c.requires.within c.index_mut-space.ensures.value c.space.view_is in
    let few = (c.requires.can _ o.at).few in
    let count : length c.reserve.new.self.items ≡ length c.space.inside.caches.items = ap length c.reserve.ensures.items in
    grind arith

pub new-slab-requires-clause-room : goal.new-slab-requires-clause-room
new-slab-requires-clause-room g c =
    let o = opens c.args.self.now c.self.inside.spaces.items c.args.arena (record { arena = c.space.inside.arena; source = c.space.inside.source; caches = c.space.inside.caches.items }) c.index_mut-space.result.now c.self.view_is c.requires.within c.index_mut-space.ensures.value c.space.view_is in
    let room = (c.requires.can _ o.at).room in
    let count : length c.reserve.new.self.items ≡ length c.space.inside.caches.items = ap length c.reserve.ensures.items in
    let is : c.len.result ≡ length c.space.inside.caches.items = omega arith in
    rw (is, c.quantum-quantum.ensures.value) room

pub returns-clause-added : goal.returns-clause-added
returns-clause-added g c =
    let o = opens c.args.self.now c.self.inside.spaces.items c.args.arena (record { arena = c.space.inside.arena; source = c.space.inside.source; caches = c.space.inside.caches.items }) c.index_mut-space.result.now c.self.view_is c.requires.within c.index_mut-space.ensures.value c.space.view_is in
    let more : c.push_reserved.new.self.items ≡ c.space.inside.caches.items ++ next_cache (record { arena = c.space.inside.arena; source = c.space.inside.source; caches = c.space.inside.caches.items }) c.args.slab_size c.args.rounds ∷ [] = search rules in
    let done = cache_done _ _ _ _ o c.push_reserved.new.self.items c.args.slab_size c.args.rounds more in
    done

pub returns-clause-frame : goal.returns-clause-frame
returns-clause-frame g c =
    let o = opens c.args.self.now c.self.inside.spaces.items c.args.arena (record { arena = c.space.inside.arena; source = c.space.inside.source; caches = c.space.inside.caches.items }) c.index_mut-space.result.now c.self.view_is c.requires.within c.index_mut-space.ensures.value c.space.view_is in
    let more : c.push_reserved.new.self.items ≡ c.space.inside.caches.items ++ next_cache (record { arena = c.space.inside.arena; source = c.space.inside.source; caches = c.space.inside.caches.items }) c.args.slab_size c.args.rounds ∷ [] = search rules in
    let done = cache_done _ _ _ _ o c.push_reserved.new.self.items c.args.slab_size c.args.rounds more in
    cache_balances _ _ _ _ _ done

pub invariant_of-self-2 : goal.invariant_of-self-2
invariant_of-self-2 g c =
    let o = opens c.args.self.now c.self.inside.spaces.items c.args.arena (record { arena = c.space.inside.arena; source = c.space.inside.source; caches = c.space.inside.caches.items }) c.index_mut-space.result.now c.self.view_is c.requires.within c.index_mut-space.ensures.value c.space.view_is in
    let more : c.push_reserved.new.self.items ≡ c.space.inside.caches.items ++ next_cache (record { arena = c.space.inside.arena; source = c.space.inside.source; caches = c.space.inside.caches.items }) c.args.slab_size c.args.rounds ∷ [] = search rules in
    let done = cache_done _ _ _ _ o c.push_reserved.new.self.items c.args.slab_size c.args.rounds more in
    let slab : c.new-slab.result ≡ (next_cache (record { arena = c.space.inside.arena; source = c.space.inside.source; caches = c.space.inside.caches.items }) c.args.slab_size c.args.rounds).slab = search rules in
    cache_keeps _ _ _ _ o c.push_reserved.new.self.items c.args.slab_size c.args.rounds more c.requires.rounds (subst IsSoundCache slab c.arena.ensures.sound) (subst IsStock c.self.view_is c.self.invariant)

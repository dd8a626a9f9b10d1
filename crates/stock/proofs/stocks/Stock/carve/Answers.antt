use Rattle.std.proofs.Common.{subst}
use Rattle.stock.specs.Stocks.{IsStock}
use Rattle.stock.proofs.Moving.{opens}
use Rattle.tag_arena.specs.Outcomes.{CarveOf}
use Rattle.stock.proofs.ArenaCalls.{on_arena, carve_moves}
use Rattle.stock.proofs.stocks.Stock.carve.Goals as goal

pub invariant_of-self : goal.invariant_of-self
invariant_of-self g c =
    let o = opens c.args.self.now c.self.inside.spaces.items c.args.arena (record { arena = c.space.inside.arena; source = c.space.inside.source; caches = c.space.inside.caches.items }) c.index_mut-space.result.now c.self.view_is c.requires.within c.index_mut-space.ensures.value c.space.view_is in
    let m = carve_moves _ _ _ _ o c.xalloc.new.self (subst IsStock c.self.view_is c.self.invariant) c.xalloc.ensures.sound c.xalloc.ensures.kept c.args.request.now c.xalloc.result c.xalloc.ensures.carved c.xalloc.ensures.owned c.xalloc.ensures.imported c.xalloc.ensures.gains in
    m.stock

pub returns-clause-frame : goal.returns-clause-frame
returns-clause-frame g c =
    let o = opens c.args.self.now c.self.inside.spaces.items c.args.arena (record { arena = c.space.inside.arena; source = c.space.inside.source; caches = c.space.inside.caches.items }) c.index_mut-space.result.now c.self.view_is c.requires.within c.index_mut-space.ensures.value c.space.view_is in
    let m = carve_moves _ _ _ _ o c.xalloc.new.self (subst IsStock c.self.view_is c.self.invariant) c.xalloc.ensures.sound c.xalloc.ensures.kept c.args.request.now c.xalloc.result c.xalloc.ensures.carved c.xalloc.ensures.owned c.xalloc.ensures.imported c.xalloc.ensures.gains in
    m.frame

pub returns-clause-fixed : goal.returns-clause-fixed
returns-clause-fixed g c =
    let o = opens c.args.self.now c.self.inside.spaces.items c.args.arena (record { arena = c.space.inside.arena; source = c.space.inside.source; caches = c.space.inside.caches.items }) c.index_mut-space.result.now c.self.view_is c.requires.within c.index_mut-space.ensures.value c.space.view_is in
    let m = carve_moves _ _ _ _ o c.xalloc.new.self (subst IsStock c.self.view_is c.self.invariant) c.xalloc.ensures.sound c.xalloc.ensures.kept c.args.request.now c.xalloc.result c.xalloc.ensures.carved c.xalloc.ensures.owned c.xalloc.ensures.imported c.xalloc.ensures.gains in
    m.fixed

pub returns-clause-carved : goal.returns-clause-carved
returns-clause-carved g c =
    let o = opens c.args.self.now c.self.inside.spaces.items c.args.arena (record { arena = c.space.inside.arena; source = c.space.inside.source; caches = c.space.inside.caches.items }) c.index_mut-space.result.now c.self.view_is c.requires.within c.index_mut-space.ensures.value c.space.view_is in
    on_arena _ _ _ _ o c.xalloc.new.self (λ a b. CarveOf a c.args.request.now c.xalloc.result b) c.xalloc.ensures.carved

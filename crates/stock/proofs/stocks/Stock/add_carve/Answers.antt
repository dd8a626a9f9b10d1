use Rattle.std.proofs.Common.{subst}
use Rattle.stock.specs.Stocks.{IsStock}
use Rattle.stock.proofs.Moving.{opens}
use Rattle.tag_arena.specs.Outcomes.{ImportOf}
use Rattle.stock.proofs.ArenaCalls.{on_arena, import_moves, import_never}
use Rattle.stock.proofs.stocks.Stock.add_carve.Goals as goal

pub invariant_of-self : goal.invariant_of-self
invariant_of-self g c =
    let o = opens c.args.self.now c.self.inside.spaces.items c.args.child (record { arena = c.space.inside.arena; source = c.space.inside.source; caches = c.space.inside.caches.items }) c.index_mut-space.result.now c.self.view_is c.requires.within c.index_mut-space.ensures.value c.space.view_is in
    let m = import_moves _ _ _ _ o c.add_span_and_carve.new.self (subst IsStock c.self.view_is c.self.invariant) c.add_span_and_carve.ensures.sound c.add_span_and_carve.ensures.kept c.args.request.now c.args.span (c.requires.can _ o.at) c.add_span_and_carve.result c.add_span_and_carve.ensures.carved c.add_span_and_carve.ensures.owned c.add_span_and_carve.ensures.imported c.add_span_and_carve.ensures.gains in
    m.stock

pub returns-clause-frame : goal.returns-clause-frame
returns-clause-frame g c =
    let o = opens c.args.self.now c.self.inside.spaces.items c.args.child (record { arena = c.space.inside.arena; source = c.space.inside.source; caches = c.space.inside.caches.items }) c.index_mut-space.result.now c.self.view_is c.requires.within c.index_mut-space.ensures.value c.space.view_is in
    let m = import_moves _ _ _ _ o c.add_span_and_carve.new.self (subst IsStock c.self.view_is c.self.invariant) c.add_span_and_carve.ensures.sound c.add_span_and_carve.ensures.kept c.args.request.now c.args.span (c.requires.can _ o.at) c.add_span_and_carve.result c.add_span_and_carve.ensures.carved c.add_span_and_carve.ensures.owned c.add_span_and_carve.ensures.imported c.add_span_and_carve.ensures.gains in
    m.frame

pub returns-clause-fixed : goal.returns-clause-fixed
returns-clause-fixed g c =
    let o = opens c.args.self.now c.self.inside.spaces.items c.args.child (record { arena = c.space.inside.arena; source = c.space.inside.source; caches = c.space.inside.caches.items }) c.index_mut-space.result.now c.self.view_is c.requires.within c.index_mut-space.ensures.value c.space.view_is in
    let m = import_moves _ _ _ _ o c.add_span_and_carve.new.self (subst IsStock c.self.view_is c.self.invariant) c.add_span_and_carve.ensures.sound c.add_span_and_carve.ensures.kept c.args.request.now c.args.span (c.requires.can _ o.at) c.add_span_and_carve.result c.add_span_and_carve.ensures.carved c.add_span_and_carve.ensures.owned c.add_span_and_carve.ensures.imported c.add_span_and_carve.ensures.gains in
    m.fixed

pub returns-clause-carved : goal.returns-clause-carved
returns-clause-carved g c =
    let o = opens c.args.self.now c.self.inside.spaces.items c.args.child (record { arena = c.space.inside.arena; source = c.space.inside.source; caches = c.space.inside.caches.items }) c.index_mut-space.result.now c.self.view_is c.requires.within c.index_mut-space.ensures.value c.space.view_is in
    on_arena _ _ _ _ o c.add_span_and_carve.new.self (λ a b. ImportOf a c.args.span c.args.request.now c.add_span_and_carve.result b) c.add_span_and_carve.ensures.carved

pub add_span_and_carve-requires : goal.add_span_and_carve-requires
add_span_and_carve-requires g c =
    let o = opens c.args.self.now c.self.inside.spaces.items c.args.child (record { arena = c.space.inside.arena; source = c.space.inside.source; caches = c.space.inside.caches.items }) c.index_mut-space.result.now c.self.view_is c.requires.within c.index_mut-space.ensures.value c.space.view_is in
    let can = c.requires.can _ o.at in
    record { span = record { route = can.route; good = can.good; plain = can.plain; room = can.room } }

pub returns-clause-never : goal.returns-clause-never
returns-clause-never g c rest a =
    let o = opens c.args.self.now c.self.inside.spaces.items c.args.child (record { arena = c.space.inside.arena; source = c.space.inside.source; caches = c.space.inside.caches.items }) c.index_mut-space.result.now c.self.view_is c.requires.within c.index_mut-space.ensures.value c.space.view_is in
    import_never _ _ _ _ o c.add_span_and_carve.new.self (subst IsStock c.self.view_is c.self.invariant) c.args.request.now c.args.span (c.requires.can _ o.at) c.add_span_and_carve.result c.add_span_and_carve.ensures.carved rest a

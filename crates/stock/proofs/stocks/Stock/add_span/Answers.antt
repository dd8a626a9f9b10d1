use Rattle.std.proofs.Common.{subst}
use Rattle.stock.specs.Stocks.{IsStock}
use Rattle.stock.proofs.Moving.{opens}
use Rattle.tag_arena.specs.Outcomes.{AddSpanOf}
use Rattle.stock.proofs.ArenaCalls.{on_arena, span_moves}
use Rattle.stock.proofs.stocks.Stock.add_span.Goals as goal

pub invariant_of-self : goal.invariant_of-self
invariant_of-self g c =
    let o = opens c.args.self.now c.self.inside.spaces.items c.args.arena (record { arena = c.space.inside.arena; source = c.space.inside.source; caches = c.space.inside.caches.items }) c.index_mut-space.result.now c.self.view_is c.requires.within c.index_mut-space.ensures.value c.space.view_is in
    let m = span_moves _ _ _ _ o c.add_span.new.self (subst IsStock c.self.view_is c.self.invariant) c.add_span.ensures.sound c.add_span.ensures.kept c.args.deed (g.D.Deed.holding c.args.deed) c.add_span.result (c.requires.root _ o.at) c.add_span.ensures.added c.add_span.ensures.imported in
    m.stock

pub returns-clause-frame : goal.returns-clause-frame
returns-clause-frame g c =
    let o = opens c.args.self.now c.self.inside.spaces.items c.args.arena (record { arena = c.space.inside.arena; source = c.space.inside.source; caches = c.space.inside.caches.items }) c.index_mut-space.result.now c.self.view_is c.requires.within c.index_mut-space.ensures.value c.space.view_is in
    let m = span_moves _ _ _ _ o c.add_span.new.self (subst IsStock c.self.view_is c.self.invariant) c.add_span.ensures.sound c.add_span.ensures.kept c.args.deed (g.D.Deed.holding c.args.deed) c.add_span.result (c.requires.root _ o.at) c.add_span.ensures.added c.add_span.ensures.imported in
    m.frame

pub returns-clause-fixed : goal.returns-clause-fixed
returns-clause-fixed g c =
    let o = opens c.args.self.now c.self.inside.spaces.items c.args.arena (record { arena = c.space.inside.arena; source = c.space.inside.source; caches = c.space.inside.caches.items }) c.index_mut-space.result.now c.self.view_is c.requires.within c.index_mut-space.ensures.value c.space.view_is in
    let m = span_moves _ _ _ _ o c.add_span.new.self (subst IsStock c.self.view_is c.self.invariant) c.add_span.ensures.sound c.add_span.ensures.kept c.args.deed (g.D.Deed.holding c.args.deed) c.add_span.result (c.requires.root _ o.at) c.add_span.ensures.added c.add_span.ensures.imported in
    m.fixed

pub returns-clause-added : goal.returns-clause-added
returns-clause-added g c =
    let o = opens c.args.self.now c.self.inside.spaces.items c.args.arena (record { arena = c.space.inside.arena; source = c.space.inside.source; caches = c.space.inside.caches.items }) c.index_mut-space.result.now c.self.view_is c.requires.within c.index_mut-space.ensures.value c.space.view_is in
    on_arena _ _ _ _ o c.add_span.new.self (λ a b. AddSpanOf a c.args.deed (g.D.Deed.holding c.args.deed) c.add_span.result b) c.add_span.ensures.added

use Rattle.std.proofs.Common.{subst}
use Rattle.stock.specs.Stocks.{IsStock}
use Rattle.stock.proofs.Moving.{opens}
use Rattle.std.specs.Option.{option_map}
use Rattle.tag_arena.specs.Outcomes.{RemoveOf}
use Rattle.stock.proofs.ArenaCalls.{on_arena, remove_moves, removed_loses}
use Rattle.stock.proofs.stocks.Stock.remove_owned.Goals as goal

pub invariant_of-self : goal.invariant_of-self
invariant_of-self g c =
    let o = opens c.args.self.now c.self.inside.spaces.items c.args.arena (record { arena = c.space.inside.arena; source = c.space.inside.source; caches = c.space.inside.caches.items }) c.index_mut-space.result.now c.self.view_is c.requires.within c.index_mut-space.ensures.value c.space.view_is in
    let m = remove_moves _ _ _ _ o c.remove_owned.new.self (subst IsStock c.self.view_is c.self.invariant) c.remove_owned.ensures.sound c.remove_owned.ensures.kept (option_map g.D.Deed.holding c.remove_owned.result) c.remove_owned.ensures.removed c.remove_owned.ensures.imported (removed_loses g.D.Deed.holding c.space.inside.arena.owned c.remove_owned.new.self.owned c.remove_owned.result c.remove_owned.ensures.loses) in
    m.stock

pub returns-clause-frame : goal.returns-clause-frame
returns-clause-frame g c =
    let o = opens c.args.self.now c.self.inside.spaces.items c.args.arena (record { arena = c.space.inside.arena; source = c.space.inside.source; caches = c.space.inside.caches.items }) c.index_mut-space.result.now c.self.view_is c.requires.within c.index_mut-space.ensures.value c.space.view_is in
    let m = remove_moves _ _ _ _ o c.remove_owned.new.self (subst IsStock c.self.view_is c.self.invariant) c.remove_owned.ensures.sound c.remove_owned.ensures.kept (option_map g.D.Deed.holding c.remove_owned.result) c.remove_owned.ensures.removed c.remove_owned.ensures.imported (removed_loses g.D.Deed.holding c.space.inside.arena.owned c.remove_owned.new.self.owned c.remove_owned.result c.remove_owned.ensures.loses) in
    m.frame

pub returns-clause-fixed : goal.returns-clause-fixed
returns-clause-fixed g c =
    let o = opens c.args.self.now c.self.inside.spaces.items c.args.arena (record { arena = c.space.inside.arena; source = c.space.inside.source; caches = c.space.inside.caches.items }) c.index_mut-space.result.now c.self.view_is c.requires.within c.index_mut-space.ensures.value c.space.view_is in
    let m = remove_moves _ _ _ _ o c.remove_owned.new.self (subst IsStock c.self.view_is c.self.invariant) c.remove_owned.ensures.sound c.remove_owned.ensures.kept (option_map g.D.Deed.holding c.remove_owned.result) c.remove_owned.ensures.removed c.remove_owned.ensures.imported (removed_loses g.D.Deed.holding c.space.inside.arena.owned c.remove_owned.new.self.owned c.remove_owned.result c.remove_owned.ensures.loses) in
    m.fixed

pub returns-clause-removed : goal.returns-clause-removed
returns-clause-removed g c =
    let o = opens c.args.self.now c.self.inside.spaces.items c.args.arena (record { arena = c.space.inside.arena; source = c.space.inside.source; caches = c.space.inside.caches.items }) c.index_mut-space.result.now c.self.view_is c.requires.within c.index_mut-space.ensures.value c.space.view_is in
    on_arena _ _ _ _ o c.remove_owned.new.self (λ a b. RemoveOf a (option_map g.D.Deed.holding c.remove_owned.result) b) c.remove_owned.ensures.removed

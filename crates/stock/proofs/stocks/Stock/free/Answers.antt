use Rattle.std.proofs.Common.{◌<◌, subst, ap, length, inr, refl, arith}
use Rattle.stock.specs.Stocks.{IsStock}
use Rattle.stock.proofs.Moving.{opens}
use Rattle.stock.proofs.ArenaCalls.{free_in, free_moves, free_never, none_never}
use Rattle.stock.proofs.stocks.Stock.free.Goals as goal

pub invariant_of-self : goal.invariant_of-self
invariant_of-self g c =
    let within : c.arena-index.result < length c.args.self.now = (let e = ap length c.self.view_is in omega arith) in
    let o = opens c.args.self.now c.self.inside.spaces.items c.arena-index.result (record { arena = c.space.inside.arena; source = c.space.inside.source; caches = c.space.inside.caches.items }) c.index_mut-space.result.now c.self.view_is within c.index_mut-space.ensures.value c.space.view_is in
    let m = free_moves _ _ _ _ o c.free.new.self (subst IsStock c.self.view_is c.self.invariant) c.free.ensures.sound c.free.ensures.kept c.args.segment c.free.result c.free.ensures.freed c.free.ensures.owned c.free.ensures.loses c.free.ensures.returned in
    m.stock

pub returns-clause-frame : goal.returns-clause-frame
returns-clause-frame g c =
    let within : c.arena-index.result < length c.args.self.now = (let e = ap length c.self.view_is in omega arith) in
    let o = opens c.args.self.now c.self.inside.spaces.items c.arena-index.result (record { arena = c.space.inside.arena; source = c.space.inside.source; caches = c.space.inside.caches.items }) c.index_mut-space.result.now c.self.view_is within c.index_mut-space.ensures.value c.space.view_is in
    let m = free_moves _ _ _ _ o c.free.new.self (subst IsStock c.self.view_is c.self.invariant) c.free.ensures.sound c.free.ensures.kept c.args.segment c.free.result c.free.ensures.freed c.free.ensures.owned c.free.ensures.loses c.free.ensures.returned in
    m.frame

pub returns-clause-fixed : goal.returns-clause-fixed
returns-clause-fixed g c =
    let within : c.arena-index.result < length c.args.self.now = (let e = ap length c.self.view_is in omega arith) in
    let o = opens c.args.self.now c.self.inside.spaces.items c.arena-index.result (record { arena = c.space.inside.arena; source = c.space.inside.source; caches = c.space.inside.caches.items }) c.index_mut-space.result.now c.self.view_is within c.index_mut-space.ensures.value c.space.view_is in
    let m = free_moves _ _ _ _ o c.free.new.self (subst IsStock c.self.view_is c.self.invariant) c.free.ensures.sound c.free.ensures.kept c.args.segment c.free.result c.free.ensures.freed c.free.ensures.owned c.free.ensures.loses c.free.ensures.returned in
    m.fixed

pub returns-clause-freed : goal.returns-clause-freed
returns-clause-freed g c =
    let within : c.arena-index.result < length c.args.self.now = (let e = ap length c.self.view_is in omega arith) in
    let o = opens c.args.self.now c.self.inside.spaces.items c.arena-index.result (record { arena = c.space.inside.arena; source = c.space.inside.source; caches = c.space.inside.caches.items }) c.index_mut-space.result.now c.self.view_is within c.index_mut-space.ensures.value c.space.view_is in
    free_in _ _ _ _ o c.free.new.self c.args.segment c.free.result (c.arena-index.ensures) c.free.ensures.freed

pub returns-clause-never : goal.returns-clause-never
returns-clause-never g c route rest a =
    let within : c.arena-index.result < length c.args.self.now = (let e = ap length c.self.view_is in omega arith) in
    let o = opens c.args.self.now c.self.inside.spaces.items c.arena-index.result (record { arena = c.space.inside.arena; source = c.space.inside.source; caches = c.space.inside.caches.items }) c.index_mut-space.result.now c.self.view_is within c.index_mut-space.ensures.value c.space.view_is in
    free_never _ _ _ _ o c.free.new.self (subst IsStock c.self.view_is c.self.invariant) c.args.segment c.free.result (c.arena-index.ensures) c.free.ensures.freed route rest a

pub returns-then-index-len-clause-never : goal.returns-then-index-len-clause-never
returns-then-index-len-clause-never g c route rest a =
    let e = ap length c.self.view_is in
    absurd (none_never c.args.self.now (subst IsStock c.self.view_is c.self.invariant) c.args.segment rest route a (omega arith))

pub returns-then-index-len-clause-freed : goal.returns-then-index-len-clause-freed
returns-then-index-len-clause-freed g c =
    let e = ap length c.self.view_is in
    inr ((omega arith), refl, refl)

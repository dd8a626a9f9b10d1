use Rattle.std.proofs.Common.{◌≡◌}
use Rattle.deed_core.specs.Covering.{units_held}
use Rattle.tag_arena.specs.ArenaState.{spans_of}
use Rattle.stock.proofs.Moving.{opens, at_space}
use Rattle.stock.proofs.stocks.Stock.arena_report.Goals as goal

pub returns-clause-span : goal.returns-clause-span
returns-clause-span g c =
    let o = opens c.args.self.now c.self.inside.spaces.items c.args.arena (record { arena = c.space.inside.arena; source = c.space.inside.source; caches = c.space.inside.caches.items }) c.index-space.result.now c.self.view_is c.requires.within c.index-space.ensures c.space.view_is in
    at_space _ _ _ _ o (λ s. c.report.result.span ≡ units_held (spans_of s.arena)) c.report.ensures.span

pub returns-clause-free : goal.returns-clause-free
returns-clause-free g c =
    let o = opens c.args.self.now c.self.inside.spaces.items c.args.arena (record { arena = c.space.inside.arena; source = c.space.inside.source; caches = c.space.inside.caches.items }) c.index-space.result.now c.self.view_is c.requires.within c.index-space.ensures c.space.view_is in
    at_space _ _ _ _ o (λ s. c.report.result.free ≡ units_held s.arena.free) c.report.ensures.free

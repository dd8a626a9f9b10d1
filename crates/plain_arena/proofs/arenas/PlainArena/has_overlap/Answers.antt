use Rattle.std.proofs.Common.{subst, List, Any}
use Rattle.deed_core.specs.Extent.{Overlap}
use Rattle.deed_core.specs.Tag.{Tag}
use Rattle.tag_arena.specs.ArenaState.{ArenaState}
use Rattle.tag_arena.specs.Calls.{OverlapsSpan, IsClear}
use Rattle.tag_arena.proofs.Reporting.{overlaps_imported, clear_of_both}
use Rattle.tag_arena.proofs.Sounding.{the_state}
use Rattle.plain_arena.proofs.arenas.PlainArena.has_overlap.Goals as goal

pub returns-then-overlaps_imported-clause-overlaps : goal.returns-then-overlaps_imported-clause-overlaps
returns-then-overlaps_imported-clause-overlaps g c =
    let a = the_state c.self.invariant.0 in
    subst (λ (s : ArenaState). OverlapsSpan s c.args.range.now) c.self.view_is
    (overlaps_imported a c.args.range.now (subst (λ (xs : List Tag). Any (λ t. Overlap t.holding.range c.args.range.now) xs) c.deref-2.ensures.value c.if-overlaps_imported.ensures))

pub returns-clause-clear : goal.returns-clause-clear
returns-clause-clear g c =
    let a = the_state c.self.invariant.0 in
    subst (λ (s : ArenaState). IsClear s c.args.range.now) c.self.view_is
    (clear_of_both a c.args.range.now _ _ c.deref.ensures.value c.deref-2.ensures.value c.if-overlaps_owned.ensures c.if-overlaps_imported.ensures)

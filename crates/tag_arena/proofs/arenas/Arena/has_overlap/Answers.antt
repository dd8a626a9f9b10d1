use Rattle.tag_arena.proofs.Sounding.{the_state}
use Rattle.tag_arena.proofs.Granted.{disjoint_owned, disjoint_imported}
use Rattle.std.proofs.Common.{subst}
use Rattle.std.proofs.lemmas.List.Elements.{Contains-append_right}
use Rattle.deed_core.specs.Extent.{Overlap}
use Rattle.tag_arena.specs.ArenaState.{ArenaState, spans_of}
use Rattle.tag_arena.specs.Calls.{OverlapsSpan}
use Rattle.tag_arena.proofs.Ranges.{Any-member, member-Any}
use Rattle.tag_arena.specs.Spanned.{holdings_of}
use Rattle.tag_arena.proofs.arenas.Arena.has_overlap.Goals as goal

pub overlaps-requires : goal.overlaps-requires
overlaps-requires g c = disjoint_owned (the_state c.self.invariant.0) c.self.invariant.0.divided

pub overlaps-requires-2 : goal.overlaps-requires-2
overlaps-requires-2 g c = disjoint_imported (the_state c.self.invariant.0) c.self.invariant.0.divided

pub returns-then-overlaps-2-clause-overlaps : goal.returns-then-overlaps-2-clause-overlaps
returns-then-overlaps-2-clause-overlaps g c =
    let a = the_state c.self.invariant.0 in
    let e = c.args.range.now in
    let any = c.if-overlaps-2.ensures in
    let there = Contains-append_right a.owned (holdings_of a.imported) any.1 (Any-member (holdings_of a.imported) any) in
    subst (λ (s : ArenaState). OverlapsSpan s e) c.self.view_is (member-Any (λ s. Overlap s.range e) (spans_of a) any.1 there any.4)

use Rattle.std.proofs.Common.{List, All, sym, subst}
use Rattle.deed_core.specs.Extent.{IsRange}
use Rattle.deed_core.specs.Holding.{Holding}
use Rattle.tag_arena.proofs.Sounding.{free_ranges}
use Rattle.plain_arena.proofs.arenas.PlainArena.choose.Goals as goal

pub chosen-requires-clause-below : goal.chosen-requires-clause-below
chosen-requires-clause-below g c = subst (λ (xs : List Holding). All (λ r. IsRange r.range) xs) (sym c.deref.ensures.value) (free_ranges _ c.self.invariant.0.divided)

use Rattle.std.proofs.Common.{refl, subst, sym}
use Rattle.arena_tree.specs.Trees.{nodes_of}
use Rattle.locked_parts.specs.Kinds.{KindDepotState}
use Rattle.locked_parts.specs.States.{IsCacheAt}
use Rattle.locked_parts.proofs.Sounds.{cached_given}
use Rattle.locked_parts.proofs.locked_events.depot_reap_in.Goals as goal

pub returns-in-Ok-clause-sound : goal.returns-in-Ok-clause-sound
returns-in-Ok-clause-sound g c =
    let kind = subst (λ (d : KindDepotState). IsCacheAt c.args.parts.now.arenas c.args.arena c.args.cache d.kind) (sym c.deref_mut.ensures.value) c.in-Ok.ensures.kind in
    (cached_given (nodes_of c.args.parts.now.arenas) c.args.arena c.args.cache c.deref_mut.result.now.kind c.reap_at.result kind c.reap_at.ensures.chunk, refl)

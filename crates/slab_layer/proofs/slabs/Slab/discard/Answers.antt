use Rattle.std.proofs.Common.{◌≡◌, Option, Some, None, subst}
use Rattle.std.proofs.lemmas.List.Elements.{All-pop}
use Rattle.deed_core.specs.Holding.{Holding}
use Rattle.slab_layer.specs.Slab.{SlabState, PartsAreStored}
use Rattle.slab_layer.proofs.SlabLemmas.{bare}
use Rattle.slab_layer.proofs.slabs.Slab.discard.Goals as goal

pub loop-chunk-init : goal.loop-chunk-init
loop-chunk-init g c =
    let held = subst (λ (s : SlabState). PartsAreStored s c.self.inside.gap c.self.inside.home.items c.self.inside.tail) c.self.view_is c.self.invariant.parts in
    (bare c.args.self c.self.inside.gap c.self.inside.tail c.self.inside.home.items held c.requires).row_out

pub loop-chunk-preserved : goal.loop-chunk-preserved
loop-chunk-preserved g c = (All-pop (λ (o : Option Holding). o ≡ None) c.loop-chunk.home.items c.pop.new.self.items (Some c.in-Some-pop.chunk) c.in-Some-pop.ensures.items c.loop-chunk.invariant).0

pub unreachable-requires-in-Some-chunk : goal.unreachable-requires-in-Some-chunk
unreachable-requires-in-Some-chunk g c =
    let none : c.in-Some-pop.chunk ≡ None = (All-pop (λ (o : Option Holding). o ≡ None) c.loop-chunk.home.items c.pop.new.self.items (Some c.in-Some-pop.chunk) c.in-Some-pop.ensures.items c.loop-chunk.invariant).1 in
    let is = c.in-Some-chunk.is in
    cc

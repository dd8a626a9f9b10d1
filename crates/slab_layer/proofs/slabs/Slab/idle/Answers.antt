use Rattle.std.proofs.Common.{◌≡◌, ◌≤◌, ◌*◌, sym, ◌∙◌, ap, arith, subst}
use Rattle.deed_core.specs.Covering.{units_held}
use Rattle.deed_core.specs.Holding.{Holding}
use Rattle.slab_layer.specs.Slab.{SlabState, idle_chunks_by, chunk_at}
use Rattle.slab_layer.proofs.SlabLemmas.{state, idle_units, idle_fits}
use Rattle.slab_layer.proofs.slabs.Slab.idle.Goals as goal

pub overflow_mul-result : goal.overflow_mul-result
overflow_mul-result g c =
    let fits = idle_fits (state (record { root = c.self.inside.root; range = c.self.inside.span }) c.self.inside.colour c.self.inside.chunk c.self.inside.home.items) c.self.inside.idle_count c.self.invariant.parts.shape c.self.invariant.counted in
    omega (arith, fits, c.len.ensures.range.below)

pub returns-clause-value : goal.returns-clause-value
returns-clause-value g c =
    let span : Holding = record { root = c.self.inside.root; range = c.self.inside.span } in
    let said = ap (λ n. n * c.self.inside.chunk) c.self.invariant.counted ∙ sym (idle_units (state span c.self.inside.colour c.self.inside.chunk c.self.inside.home.items)) in
    subst (λ (s : SlabState). c.self.inside.idle_count * c.self.inside.chunk ≡ units_held (idle_chunks_by (chunk_at s) s)) c.self.view_is said

pub returns-clause-bound : goal.returns-clause-bound
returns-clause-bound g c =
    let fits = idle_fits (state (record { root = c.self.inside.root; range = c.self.inside.span }) c.self.inside.colour c.self.inside.chunk c.self.inside.home.items) c.self.inside.idle_count c.self.invariant.parts.shape c.self.invariant.counted in
    subst (λ (s : SlabState). c.self.inside.idle_count * c.self.inside.chunk ≤ s.span.range.len) c.self.view_is fits

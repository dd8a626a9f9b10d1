use Rattle.std.proofs.Common.{ap, subst, ◌∙◌, ◌≡◌}
use Rattle.locked_parts.specs.Kinds.{count_of_caches}
use Rattle.locked_parts.specs.Owns.{cache_of}
use Rattle.locked_parts.specs.States.{LockedPartsState}
use Rattle.locked_parts.specs.Sums.{AddsUp, SlabsTell, DepotTells}
use Rattle.locked_parts.proofs.parts.LockedParts.sums.Goals as goal

pub returns : goal.returns
returns g c =
    let arenas = c.args.self.now.arenas in
    let count : c.cache_count-count.result ≡ count_of_caches arenas c.args.arena = c.cache_count-count.ensures ∙ ap (λ (s : LockedPartsState). count_of_caches s.arenas c.args.arena) c.self.view_is in
    record {
      arena = c.arena_units-free.ensures;
      slab = subst (λ n. AddsUp (λ number. SlabsTell (cache_of arenas c.args.arena number)) n c.sum_caches-slab.result) count c.sum_caches-slab.ensures;
      magazine = subst (λ n. AddsUp (λ number. DepotTells (cache_of arenas c.args.arena number)) n c.sum_caches-magazine.result) count c.sum_caches-magazine.ensures;
    }

-- What a step of a reaping does to the arenas: slabs go, depots lose only what may be reaped.
use Rattle.std.proofs.Common.{◌≡◌, ℕ, ◌+◌, List, Some, set, map, refl, ap, ◌∙◌, arith}
use Rattle.std.specs.Prelude.{slice_get, sum_by}
use Rattle.std.proofs.lemmas.List.{map-set}
use Rattle.deed_core.proofs.LawProofs.{map_set_same, slice_get_mapped, sum_set}
use Rattle.slab_layer.specs.Slab.{SlabState}
use Rattle.stock.specs.Spaces.{SpaceState, QuantumCacheState, with_cache, with_arena}
use Rattle.tag_arena.specs.ArenaState.{ArenaState}
use Rattle.lease_machine.specs.Operators.{after_reap, depots_of, depots_after_reap}

-- the units of the spans of slabs
abbrev pub span_units : SlabState → ℕ
span_units s = s.span.range.len

abbrev pub slab_units : QuantumCacheState → ℕ
slab_units c = sum_by span_units c.slab.slabs

abbrev pub slab_units_of : SpaceState → ℕ
slab_units_of s = sum_by slab_units s.caches

-- so many units of slabs were taken out
pub record Takes (units : ℕ) (old new : List SpaceState) : Type 0 where
  pub weigh : sum_by slab_units_of old ≡ sum_by slab_units_of new + units
  pub depots : map depots_after_reap new ≡ map depots_after_reap old

pub takes_none : (spaces : List SpaceState) → Takes 0 spaces spaces
takes_none spaces = record { weigh = omega arith; depots = refl }

pub takes_then : (m n : ℕ) (a b c : List SpaceState) → Takes m a b → Takes n b c → Takes (m + n) a c
takes_then m n a b c first second = record { weigh = omega (arith, first.weigh, second.weigh); depots = second.depots ∙ first.depots }

-- where one cache was written over
module _ (old new : List SpaceState) (k j : ℕ) (space : SpaceState) (c d : QuantumCacheState) (at : slice_get old k ≡ Some space) (among : slice_get space.caches j ≡ Some c) (after : new ≡ set old k (with_cache j d space)) where
  pub cache_takes : (units : ℕ) → slab_units c ≡ slab_units d + units → after_reap d.depot ≡ after_reap c.depot → Takes units old new
  cache_takes units weighs depot = record {
    weigh = (
        let inner = sum_set slab_units space.caches j c d among in
        let outer = sum_set slab_units_of old k space (with_cache j d space) at in
        let now = ap (sum_by slab_units_of) after in
        omega (arith, inner, outer, now, weighs)
        );
    depots = (
        let here : map (λ (z : QuantumCacheState). z.depot) (set space.caches j d) ≡ set (map (λ (z : QuantumCacheState). z.depot) space.caches) j d.depot = map-set (λ (z : QuantumCacheState). z.depot) space.caches j d in
        let same : depots_after_reap (with_cache j d space) ≡ depots_after_reap space =
        ap (map after_reap) here ∙ map_set_same after_reap (depots_of space) j c.depot d.depot (slice_get_mapped (λ (z : QuantumCacheState). z.depot) space.caches j c among) depot in
        ap (map depots_after_reap) after ∙ map_set_same depots_after_reap old k space (with_cache j d space) at same
        );
  }

-- where an arena was
pub arena_takes : (old new : List SpaceState) (k : ℕ) (space : SpaceState) (a : ArenaState) → slice_get old k ≡ Some space → new ≡ set old k (with_arena a space) → Takes 0 old new
arena_takes old new k space a at after = record {
  weigh = (
      let outer = sum_set slab_units_of old k space (with_arena a space) at in
      let now = ap (sum_by slab_units_of) after in
      omega (arith, outer, now)
      );
  depots = ap (map depots_after_reap) after ∙ map_set_same depots_after_reap old k space (with_arena a space) at refl;
}

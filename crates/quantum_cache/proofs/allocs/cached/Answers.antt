use Rattle.arena_tree.proofs.LawProofs.{ran_gives, ran_goes_on}
use Rattle.quantum_cache.specs.Allocs.{alloc_cached}
use Rattle.quantum_cache.proofs.allocs.cached.Goals as goal

pub returns-in-Some-clause-ran : goal.returns-in-Some-clause-ran
unfolding alloc_cached
returns-in-Some-clause-ran g c = ran_gives _ _ _ _ _ _ _ _ _ c.in-Some.ensures.ran

pub returns-in-Some-depot_round-clause-ran : goal.returns-in-Some-depot_round-clause-ran
unfolding alloc_cached
returns-in-Some-depot_round-clause-ran g c = ran_goes_on _ _ _ _ _ _ _ _ _ _ c.in-None.ensures.ran (ran_gives _ _ _ _ _ _ _ _ _ c.in-Some-depot_round.ensures.ran)

pub returns-in-Some-chunk-clause-ran : goal.returns-in-Some-chunk-clause-ran
unfolding alloc_cached
returns-in-Some-chunk-clause-ran g c = ran_goes_on _ _ _ _ _ _ _ _ _ _ c.in-None.ensures.ran (ran_goes_on _ _ _ _ _ _ _ _ _ _ c.in-None-depot_round.ensures.ran (ran_gives _ _ _ _ _ _ _ _ _ c.in-Some-chunk.ensures.ran))

pub returns-in-Some-slab_chunk-clause-ran : goal.returns-in-Some-slab_chunk-clause-ran
unfolding alloc_cached
returns-in-Some-slab_chunk-clause-ran g c = ran_goes_on _ _ _ _ _ _ _ _ _ _ c.in-None.ensures.ran (ran_goes_on _ _ _ _ _ _ _ _ _ _ c.in-None-depot_round.ensures.ran (ran_goes_on _ _ _ _ _ _ _ _ _ _ c.in-None-chunk.ensures.ran (ran_gives _ _ _ _ _ _ _ _ _ c.in-Some-slab_chunk.ensures.ran)))

pub returns-clause-ran : goal.returns-clause-ran
unfolding alloc_cached
returns-clause-ran g c = ran_goes_on _ _ _ _ _ _ _ _ _ _ c.in-None.ensures.ran (ran_goes_on _ _ _ _ _ _ _ _ _ _ c.in-None-depot_round.ensures.ran (ran_goes_on _ _ _ _ _ _ _ _ _ _ c.in-None-chunk.ensures.ran (ran_goes_on _ _ _ _ _ _ _ _ _ _ c.in-None-slab_chunk.ensures.ran c.climb_alloc.ensures.ran)))

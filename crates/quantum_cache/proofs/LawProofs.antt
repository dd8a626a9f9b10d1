-- What the proofs of the crates above cite, and all that they cite, of this crate: the laws that its law
-- functions state.
pub use Rattle.quantum_cache.proofs.AllocBounds.{alloc_is_short}
pub use Rattle.quantum_cache.proofs.AllocEnds.{alloc_gives, alloc_bad}
pub use Rattle.quantum_cache.proofs.AllocHands.{alloc_handles, xalloc_handles}
pub use Rattle.quantum_cache.proofs.AllocTellings.{alloc_tells}
pub use Rattle.quantum_cache.proofs.ChainsIn.{chain_is}
pub use Rattle.quantum_cache.proofs.DrainTellings.{drain_tells}
pub use Rattle.quantum_cache.proofs.EmptyingHands.{drain_handles, reap_arena_handles, reap_handles}
pub use Rattle.quantum_cache.proofs.FreeBounds.{free_is_short}
pub use Rattle.quantum_cache.proofs.FreeHands.{free_handles}
pub use Rattle.quantum_cache.proofs.FreeTellings.{free_tells}
pub use Rattle.quantum_cache.proofs.ReapBounds.{reap_arena_is_short, reap_is_short}
pub use Rattle.quantum_cache.proofs.ReapTellings.{reap_arena_tells, reap_tells}
pub use Rattle.quantum_cache.proofs.Tellings.{tells_after, tells_both, tells_so, tells_any}

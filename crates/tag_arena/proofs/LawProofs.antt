-- What the proofs of the crates above cite of this crate: the laws that its law functions state, and
-- the same of weights of ranges and of segments.
pub use Rattle.tag_arena.proofs.OneChoice.{best_one, next_one, instant_one, choice_one, carve_one}
pub use Rattle.tag_arena.proofs.Serving.{none_serves, choice_serves, carves_exactly}
pub use Rattle.tag_arena.proofs.Reporting.{units_add_up}
pub use Rattle.tag_arena.proofs.Standing.{free_are_longest_runs, spans_once, goes_empty, allocated_stand, allocated_count}
pub use Rattle.tag_arena.proofs.Carrying.{tags_weigh}

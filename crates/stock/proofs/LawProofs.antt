-- What the proofs of the crates above cite, and all that they cite, of this crate: the laws that its
-- law functions state.
use Rattle.stock.specs.Laws.{AlwaysTagged, AlwaysOut, AlwaysImports, AlwaysSlab, AlwaysOnGrid, ArenaWeighs, AllocatedOfArena}
use Rattle.stock.proofs.Exporting.{arena_here, arena_there, allocated_of, out_tagged, clear_for_child, aligned_for_child, clear_of_slabs, on_grid_of}
use Rattle.stock.proofs.SlabCalls as chunks
pub use Rattle.stock.proofs.OneHomes.{one_home, adds_up}
pub use Rattle.stock.proofs.Apart.{out_is_apart}
pub use Rattle.stock.proofs.Chains.{source_stands_before, plans_stay, caches_stay}
pub use Rattle.stock.proofs.Ending.{ends_once_reaped, ends_with_nothing_out}
pub use Rattle.stock.proofs.Numbered.{plain_setup_numbers, grown_numbers}
pub use Rattle.stock.proofs.Telling.{ToldFirst, told_more, tell_each}
pub use Rattle.stock.proofs.FrameLaws.{out_weighs, frames_then, pops, pushes, changes}

pub always_tagged : AlwaysTagged
always_tagged spaces t rest accounted route = out_tagged spaces accounted.stock t rest route accounted.accounts

pub always_out : AlwaysOut
always_out spaces t k rest accounted route = chunks.always_out spaces accounted.stock t k rest route accounted.accounts

pub always_imports : AlwaysImports
always_imports spaces span rest accounted route k s at source =
    (clear_for_child spaces accounted.stock span rest route accounted.accounts k s at source, aligned_for_child spaces accounted.stock span rest route accounted.accounts k s at source)

pub always_slab : AlwaysSlab
always_slab spaces span rest accounted route j c there = clear_of_slabs spaces accounted.stock span rest route accounted.accounts there.space j c there.at there.among

pub always_on_grid : AlwaysOnGrid
always_on_grid spaces span rest accounted route s at = on_grid_of spaces accounted.stock span rest route accounted.accounts s at

pub arena_weighs : ArenaWeighs
arena_weighs p f t = (arena_here p f t, arena_there p f t)

pub allocated_of_arena : AllocatedOfArena
allocated_of_arena spaces stock p s at f = allocated_of spaces stock p s f at

-- What is told of a running system, each part of it as it was at some moment under its own lock.
use Rattle.std.specs.Prelude.{◌≡◌, ℕ, List, sum_by}
use Rattle.arena_tree.specs.declared.trees.TreeArena.{TreeArena}
use Rattle.lease_book.specs.BookState.{leased_segments, units_of_arena}
use Rattle.locked_parts.specs.Sums.{SumsOf}
use Rattle.shared_book.specs.Sums.{OfSomeBook}
use Rattle.lease_threads.specs.declared.sums.SystemSums.{SystemSums}

-- the sums of the arena of this number: what its parts told, and what was leased of it in the book
pub record AreSumsOf (arenas : List TreeArena) (id : ℕ) (s : SystemSums) : Type 0 where
  pub parts : SumsOf arenas id (record {
    free = s.free;
    allocated = s.allocated;
    slab = s.slab;
    magazine = s.magazine;
  })
  pub leased : OfSomeBook (λ b. s.leased ≡ sum_by (units_of_arena id) (leased_segments b))

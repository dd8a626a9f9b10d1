use Rattle.std.proofs.Common.{◌≡◌, ◌<◌, ◌≤◌, ℕ, None}
use Rattle.tag_arena.specs.Linked.{newest_of}
use Rattle.tag_arena.proofs.newest_lists.NewestLists.newest_from.Given as goal

-- the lists before have nothing on them
abbrev pub invariant-loop-at : goal.invariant-loop-at
invariant-loop-at l = (p : ℕ) → l.list ≤ p → p < l.at → newest_of l.self p ≡ None

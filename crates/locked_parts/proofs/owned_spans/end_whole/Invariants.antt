use Rattle.std.proofs.Common.{vec_len}
use Rattle.tag_arena.specs.ArenaState.{IsSoundArena}
use Rattle.locked_parts.specs.News.{AreWhole}
use Rattle.locked_parts.proofs.owned_spans.end_whole.Given as goal

abbrev pub invariant-loop-deed : goal.invariant-loop-deed
invariant-loop-deed g l = record {
  whole : AreWhole l.arena l.roots.items;
  sound : IsSoundArena l.arena;
}

abbrev pub decreases-loop-deed : goal.decreases-loop-deed
decreases-loop-deed g l = vec_len l.roots

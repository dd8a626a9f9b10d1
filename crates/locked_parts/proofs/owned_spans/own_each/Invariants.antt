use Rattle.std.proofs.Common.{◌≡◌, ◌+◌, ◌≤◌, ◌++◌, drop, length}
use Rattle.arena_tree.specs.Settings.{span_count}
use Rattle.tag_arena.specs.Outcomes.{KeepsSetup}
use Rattle.locked_parts.specs.News.{AreWhole, numbered_from, ranges_owned}
use Rattle.locked_parts.proofs.owned_spans.own_each.Given as goal

abbrev pub invariant-loop-span : goal.invariant-loop-span
invariant-loop-span g l = record {
  whole : AreWhole l.arena l.roots.items;
  kept : KeepsSetup l.fn.arena l.arena;
  roots : l.roots.items ++ numbered_from l.opener.first (ranges_owned l.id (drop l.span-index l.spans)) ≡ numbered_from l.fn.opener.first (ranges_owned l.id l.spans);
  few : span_count l.id (drop l.span-index l.spans) ≤ l.opener.left;
  first : l.opener.first ≡ l.fn.opener.first + length l.roots.items;
  left : l.opener.left + length l.roots.items ≡ l.fn.opener.left;
}

use Rattle.std.proofs.Common.{◌≡◌, ◌-◌, ℕ, sym, ap, ◌∙◌, List, Option, None, Some, arith}
use Rattle.std.specs.FinMap as finmap
use Rattle.deed_core.specs.Holding.{Holding}
use Rattle.tag_arena.specs.Cells.{allocated_at, AreOnce, SameCells, CellBecomes, IsAt, tags_in}
use Rattle.tag_arena.proofs.Tagging.{once_same, tags_same, sound_same, none_there, tags_taken, sound_taken, counted}
use Rattle.tag_arena.proofs.tags.Tags.remove.Goals as goal

-- the cells, with one off its chain, and without its range
module _ (old off new : List (Option Holding)) (at base : ℕ) (once : AreOnce old) (is : IsAt base at old) (same : SameCells old off)
    (becomes : CellBecomes off new at None) where
  -- off the chain still no two begin at one base
  once_off : AreOnce off
  once_off = once_same old off once same

  -- and the range is still in its cell
  held : allocated_at off at ≡ Some is.0
  held = same at ∙ is.1

  -- in the end the map is without the range
  one_less : tags_in new ≡ finmap.remove (tags_in old) base
  one_less =
      tags_taken off new at is.0 once_off becomes held ∙ ap (λ m. finmap.remove m is.0.range.base) (tags_same old off once same)
      ∙ ap (finmap.remove (tags_in old)) is.2

  -- and what is true of the count and the cells stays so
  stays : (count : ℕ) → count ≡ finmap.len (tags_in old) → (count - 1 ≡ finmap.len (tags_in new)) × AreOnce new
  stays count counts =
      let before = sound_same count old off same (counts, once) in
      let some = counted old once at is.0 is.1 in
      sound_taken off new at is.0 once_off becomes held count (count - 1) before.0 (omega (arith, some, counts))

pub unreachable-requires : goal.unreachable-requires
unreachable-requires c =
    let none = none_there c.self.inside.cells c.base-base.result c.in_default.ensures in
    let some : None ≡ Some c.args.range =
    sym none ∙ ap (finmap.get (tags_in c.self.inside.cells)) c.base-base.ensures.value ∙ ap (λ m. finmap.get m c.args.range.range.base) c.self.view_is ∙ c.requires in
    cc

pub overflow_sub-self : goal.overflow_sub-self
overflow_sub-self c =
    let some = counted c.self.inside.cells c.self.invariant.1 c.in-Some.at c.in-Some.ensures.0 c.in-Some.ensures.1 in
    omega (arith, some, c.self.invariant.0)

pub invariant_of-self : goal.invariant_of-self
invariant_of-self c =
    stays c.self.inside.cells c.take_off.new.cells c.release.new.self c.in-Some.at c.base-base.result c.self.invariant.1 c.in-Some.ensures c.take_off.ensures.same c.release.ensures
    c.self.inside.count c.self.invariant.0

pub returns-then-is_linked : goal.returns-then-is_linked
returns-then-is_linked c =
    one_less c.self.inside.cells c.take_off.new.cells c.release.new.self c.in-Some.at c.base-base.result c.self.invariant.1 c.in-Some.ensures c.take_off.ensures.same c.release.ensures
    ∙ ap (finmap.remove (tags_in c.self.inside.cells)) c.base-base.ensures.value ∙ ap (λ m. finmap.remove m c.args.range.range.base) c.self.view_is

pub invariant_of-self-2 : goal.invariant_of-self-2
invariant_of-self-2 c =
    let sound = stays c.self.inside.cells c.take_off.new.cells c.release.new.self c.in-Some.at c.base-base.result c.self.invariant.1 c.in-Some.ensures c.take_off.ensures.same c.release.ensures
    c.self.inside.count c.self.invariant.0 in
    sound_same (c.self.inside.count - 1) c.release.new.self c.unlink.new.self c.unlink.ensures.same sound

pub returns : goal.returns
returns c =
    let sound = stays c.self.inside.cells c.take_off.new.cells c.release.new.self c.in-Some.at c.base-base.result c.self.invariant.1 c.in-Some.ensures c.take_off.ensures.same c.release.ensures
    c.self.inside.count c.self.invariant.0 in
    tags_same c.release.new.self c.unlink.new.self sound.1 c.unlink.ensures.same
    ∙ one_less c.self.inside.cells c.take_off.new.cells c.release.new.self c.in-Some.at c.base-base.result c.self.invariant.1 c.in-Some.ensures c.take_off.ensures.same c.release.ensures
    ∙ ap (finmap.remove (tags_in c.self.inside.cells)) c.base-base.ensures.value ∙ ap (λ m. finmap.remove m c.args.range.range.base) c.self.view_is

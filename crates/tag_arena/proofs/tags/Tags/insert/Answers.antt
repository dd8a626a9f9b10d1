use Rattle.std.proofs.Common.{◌≡◌, ◌+◌, ℕ, ap, ◌∙◌, List, Option, None, Some, Result, Ok, Err, OnErr}
use Rattle.std.specs.FinMap as finmap
use Rattle.deed_core.specs.Holding.{Holding}
use Rattle.tag_arena.specs.Cells.{allocated_at, AreOnce, SameCells, CellBecomes, tags_in}
use Rattle.tag_arena.proofs.Tagging.{once_same, tags_same, sound_same, same_twice, tags_put, sound_put}
use Rattle.tag_arena.proofs.tags.Tags.insert.Goals as goal

-- the cells, made wider, with a place, with one behind it, with the range, and on their chain
module _ (old wide placed rested put new : List (Option Holding)) (at : ℕ) (range : Holding)
    (once : AreOnce old) (absent : finmap.get (tags_in old) range.range.base ≡ None)
    (wider : SameCells old wide) (place : SameCells wide placed) (vacant : allocated_at placed at ≡ None) (rest : SameCells placed rested)
    (becomes : CellBecomes rested put at (Some range)) (chained : SameCells put new) where
  -- the same is allocated until the range is
  same_rest : SameCells old rested
  same_rest = same_twice old placed rested (same_twice old wide placed wider place) rest

  -- nothing is allocated in its place
  still_vacant : allocated_at rested at ≡ None
  still_vacant = rest at ∙ vacant

  -- and no range begins at its base
  still_absent : finmap.get (tags_in rested) range.range.base ≡ None
  still_absent = ap (λ m. finmap.get m range.range.base) (tags_same old rested once same_rest) ∙ absent

  -- in the end the map has the range as well
  one_more : tags_in new ≡ finmap.insert (tags_in old) range.range.base range
  one_more =
      let once_rest = once_same old rested once same_rest in
      let sound = sound_put rested put at range once_rest becomes still_vacant still_absent (finmap.len (tags_in rested)) (λ i. finmap.len (tags_in rested)) in
      tags_same put new sound.1 chained ∙ tags_put rested put at range once_rest becomes still_vacant still_absent
      ∙ ap (λ m. finmap.insert m range.range.base range) (tags_same old rested once same_rest)

  -- and what is true of the count and the cells stays so
  stays : (count : ℕ) → count ≡ finmap.len (tags_in old) → (count + 1 ≡ finmap.len (tags_in new)) × AreOnce new
  stays count is =
      let before = sound_same count old rested same_rest (is, once) in
      sound_same (count + 1) put new chained (sound_put rested put at range before.1 becomes still_vacant still_absent count before.0)

-- what holds anyway holds of an error
on_err : {X E : Type 0} {P : Type 0} → (r : Result X E) → P → OnErr r P
on_err (Ok x) p = tt
on_err (Err e) p = p

pub invariant_of-self : goal.invariant_of-self
invariant_of-self c = sound_same c.self.inside.count c.self.inside.cells c.widen.new.cells c.widen.ensures.same c.self.invariant

pub returns-in_err-widen-clause-unchanged : goal.returns-in_err-widen-clause-unchanged
returns-in_err-widen-clause-unchanged c =
    on_err c.from_residual.result (tags_same c.self.inside.cells c.widen.new.cells c.self.invariant.1 c.widen.ensures.same ∙ c.self.view_is)

pub invariant_of-self-in_err-at : goal.invariant_of-self-in_err-at
invariant_of-self-in_err-at c =
    sound_same c.self.inside.count c.self.inside.cells c.place_of.new.self
    (same_twice c.self.inside.cells c.widen.new.cells c.place_of.new.self c.widen.ensures.same c.place_of.ensures.same) c.self.invariant

pub returns-in_err-at-clause-unchanged : goal.returns-in_err-at-clause-unchanged
returns-in_err-at-clause-unchanged c =
    let same = same_twice c.self.inside.cells c.widen.new.cells c.place_of.new.self c.widen.ensures.same c.place_of.ensures.same in
    on_err c.from_residual-in_err-at.result (tags_same c.self.inside.cells c.place_of.new.self c.self.invariant.1 same ∙ c.self.view_is)

pub invariant_of-self-2 : goal.invariant_of-self-2
invariant_of-self-2 c =
    let absent = ap (λ m. finmap.get m c.args.range.range.base) c.self.view_is ∙ c.requires.absent in
    stays c.self.inside.cells c.widen.new.cells c.place_of.new.self c.place_behind-behind.new.self c.allocate.new.self c.put_on.new.cells c.in_ok-at.at c.args.range
    c.self.invariant.1 absent c.widen.ensures.same c.in_ok-at.ensures.same c.in_ok-at.ensures.vacant.1 c.place_behind-behind.ensures.same c.allocate.ensures c.put_on.ensures.same
    c.self.inside.count c.self.invariant.0

pub returns-clause-ok : goal.returns-clause-ok
returns-clause-ok c =
    let absent = ap (λ m. finmap.get m c.args.range.range.base) c.self.view_is ∙ c.requires.absent in
    one_more c.self.inside.cells c.widen.new.cells c.place_of.new.self c.place_behind-behind.new.self c.allocate.new.self c.put_on.new.cells c.in_ok-at.at c.args.range
    c.self.invariant.1 absent c.widen.ensures.same c.in_ok-at.ensures.same c.in_ok-at.ensures.vacant.1 c.place_behind-behind.ensures.same c.allocate.ensures c.put_on.ensures.same
    ∙ ap (λ m. finmap.insert m c.args.range.range.base c.args.range) c.self.view_is

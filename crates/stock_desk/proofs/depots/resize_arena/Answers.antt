use Rattle.std.proofs.Common.{◌≡◌, ◌<◌, ◌+◌, sym, subst, length, arith}
use Rattle.lease_machine.specs.Operators.{after_rise}
use Rattle.stock_desk.proofs.DepotRows.{RowResized, resize_start, row_has, resize_rises, resize_stays, resize_rose, resize_none}
use Rattle.stock_desk.proofs.depots.resize_arena.Goals as goal
use Rattle.stock_desk.proofs.depots.resize_arena.Goals.{in-Ok, in-Err}

pub loop-cache-init : goal.loop-cache-init
loop-cache-init c = resize_start c.args.rounds c.args.arena c.args.stock.now c.requires.within

pub resize-requires-clause-has : goal.resize-requires-clause-has
resize-requires-clause-has c =
    let count = c.caches-cache-end.ensures.value c.loop-cache.invariant.row.space c.loop-cache.invariant.row.at in
    let within : c.loop-cache.cache < length c.loop-cache.invariant.row.space.caches = omega (arith, count) in
    row_has (after_rise c.args.rounds) c.args.arena c.loop-cache.cache c.args.stock.now c.loop-cache.stock c.loop-cache.invariant.row within

pub loop-cache-preserved : goal.loop-cache-preserved
loop-cache-preserved c = elim c.match-resize.branch [
  | in-Ok w ↦ subst (λ b. RowResized c.args.rounds c.args.arena (c.loop-cache.cache + 1) b c.args.stock.now c.resize.new.self) (sym w.rose-is)
      (resize_rises c.args.rounds c.args.arena c.loop-cache.cache c.loop-cache.rose c.args.stock.now c.loop-cache.stock c.resize.new.self c.loop-cache.invariant _ w.in-Ok.ensures.resized)
  | in-Err w ↦ subst (λ b. RowResized c.args.rounds c.args.arena (c.loop-cache.cache + 1) b c.args.stock.now c.resize.new.self) (sym w.rose-is)
      (resize_stays c.args.rounds c.args.arena c.loop-cache.cache c.loop-cache.rose c.args.stock.now c.loop-cache.stock c.resize.new.self c.loop-cache.invariant _ w.in-Err.ensures.resized)
]

pub returns-then-rose : goal.returns-then-rose
returns-then-rose c =
    let count = c.caches-cache-end.ensures.value c.loop-cache.invariant.row.space c.loop-cache.invariant.row.at in
    let all : c.loop-cache.cache ≡ length c.loop-cache.invariant.row.space.caches = omega (arith, count) in
    resize_rose c.args.rounds c.args.arena c.loop-cache.cache c.args.stock.now c.loop-cache.stock c.loop-cache.rose c.loop-cache.invariant c.if-rose.true all

pub returns-else-rose : goal.returns-else-rose
returns-else-rose c =
    let count = c.caches-cache-end.ensures.value c.loop-cache.invariant.row.space c.loop-cache.invariant.row.at in
    let all : c.loop-cache.cache ≡ length c.loop-cache.invariant.row.space.caches = omega (arith, count) in
    resize_none c.args.rounds c.args.arena c.loop-cache.cache c.args.stock.now c.loop-cache.stock c.loop-cache.rose c.loop-cache.invariant c.if-rose.false all

use Rattle.std.proofs.Common.{◌≡◌, Some, sym, ap, ◌∙◌}
use Rattle.stock.specs.Spaces.{quanta_of}
use Rattle.stock.proofs.Summing.{from_this, from_other, from_none}
use Rattle.stock.proofs.stocks.Stock.imported_units.Goals as goal

pub returns-in-Some : goal.returns-in-Some
returns-in-Some g c x at =
    let source : x.source ≡ Some c.args.arena = sym (c.in-Some.ensures.value x at) ∙ ap Some c.if-source-arena.true in
    c.arena_report.ensures.span x at ∙ sym (from_this c.args.arena (quanta_of c.args.self.now) c.args.child x (c.count.ensures.stock c.args.child x at) source)

pub returns-in_default : goal.returns-in_default
returns-in_default g c x at = sym (from_other c.args.arena (quanta_of c.args.self.now) c.args.child x (c.count.ensures.stock c.args.child x at) c.in-Some.source (sym (c.in-Some.ensures.value x at)) c.if-source-arena.false)

pub returns-in_default-2 : goal.returns-in_default-2
returns-in_default-2 g c x at = sym (from_none c.args.arena (quanta_of c.args.self.now) c.args.child x (c.count.ensures.stock c.args.child x at) (sym (c.in_default.ensures.value x at)))

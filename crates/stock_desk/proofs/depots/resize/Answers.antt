use Rattle.std.proofs.Common.{sym, subst}
use Rattle.lease_proto.specs.Operators.{rounds_named}
use Rattle.stock_desk.specs.Depots.{ResizesAt}
use Rattle.stock_desk.proofs.DepotRows.{resize_told}
use Rattle.stock_desk.proofs.depots.resize.Goals as goal

pub returns-in-Some : goal.returns-in-Some
returns-in-Some c d arenas here = resize_told d c.args.line.now.arena (rounds_named c.args.line.now.size) c.in-Some.arena c.args.tree.now c.args.stock.now c.resize_arena.new.stock c.resize_arena.result (sym c.in-Some.ensures.index)
    (subst (λ n. ResizesAt c.in-Some.arena n c.args.stock.now c.resize_arena.result c.resize_arena.new.stock) c.rounds.ensures c.resize_arena.ensures) arenas here

use Rattle.std.proofs.Common.{◌<◌, ◌∙◌, length, arith}
use Rattle.local_parts.proofs.NewCpus.{cpu_more, new_cpu_empty}
use Rattle.local_parts.proofs.cpu_caches.CpuCaches.fill.Goals as goal

pub returns-in_err-reserve-clause-empty : goal.returns-in_err-reserve-clause-empty
returns-in_err-reserve-clause-empty g c = new_cpu_empty c.args.size _ c.reserve.new.self.items (c.reserve.ensures.items ∙ c.loop-arena.invariant)

pub returns-in_err-row-clause-empty : goal.returns-in_err-row-clause-empty
returns-in_err-row-clause-empty g c = new_cpu_empty c.args.size _ c.reserve.new.self.items (c.reserve.ensures.items ∙ c.loop-arena.invariant)

pub loop-arena-preserved : goal.loop-arena-preserved
loop-arena-preserved g c =
    let within : c.loop-arena.arena < length c.args.stock.now = (let e = c.count-arena-end.ensures.value in omega arith) in
    c.push_reserved.ensures.items ∙ cpu_more c.args.size c.args.stock.now c.loop-arena.arena c.reserve.new.self.items c.in_ok-row.row within (c.reserve.ensures.items ∙ c.loop-arena.invariant) c.in_ok-row.ensures

pub returns-clause-empty : goal.returns-clause-empty
returns-clause-empty g c = new_cpu_empty c.args.size _ _ c.loop-arena.invariant

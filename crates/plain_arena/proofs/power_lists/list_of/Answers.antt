use Rattle.std.proofs.Common.{◌≡◌, ◌/◌, ◌^◌, ◌*◌, ◌<◌, ◌≤◌, ap, arith}
use Rattle.tag_arena.proofs.PowerLists.{on_list, one_list}
use Rattle.plain_arena.proofs.power_lists.list_of.Goals as goal

pub returns-else-quanta-eq0 : goal.returns-else-quanta-eq0
returns-else-quanta-eq0 c =
    let e : c.len.result / c.args.quantum ≡ c.args.range.now.range.len / c.args.quantum = ap (λ k. k / c.args.quantum) c.len.ensures.value in
    let low : 2 ^ c.ilog2.result ≤ c.args.range.now.range.len / c.args.quantum = omega (arith, e, c.ilog2.ensures.power_le) in
    let high : c.args.range.now.range.len / c.args.quantum < 2 * 2 ^ c.ilog2.result = omega (arith, e, c.ilog2.ensures.next_power_gt) in
    let on = on_list c.args.quantum c.args.range.now c.ilog2.result c.requires low high in
    let below = c.len.ensures.range.below in
    (c.ilog2.ensures.bound, omega (arith, on.0, below), on, λ i h. one_list c.args.quantum c.args.range.now i c.ilog2.result h on)

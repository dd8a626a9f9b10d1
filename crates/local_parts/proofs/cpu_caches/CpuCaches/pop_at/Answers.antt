use Rattle.std.proofs.Common.{ap, length, arith}
use Rattle.local_parts.specs.OwnChanges.{OwnPops}
use Rattle.local_parts.proofs.Rows.{row_within, own_within, opens_row, on_own}
use Rattle.local_parts.proofs.cpu_caches.CpuCaches.pop_at.Goals as goal

pub index_mut-row-requires : goal.index_mut-row-requires
index_mut-row-requires g c = let e = ap length c.self.view_is in let within = row_within _ _ _ c.requires in omega (arith, e, within)

pub index_mut-own-requires : goal.index_mut-own-requires
index_mut-own-requires g c =
    let o = opens_row c.args.self.now c.self.inside.rows.items c.args.arena c.row.inside.caches.items c.index_mut-row.result.now c.self.view_is (row_within _ _ _ c.requires) c.index_mut-row.ensures.value c.row.view_is in
    let within = own_within _ _ _ _ c.requires o.at in
    omega arith

pub returns : goal.returns
returns g c =
    let o = opens_row c.args.self.now c.self.inside.rows.items c.args.arena c.row.inside.caches.items c.index_mut-row.result.now c.self.view_is (row_within _ _ _ c.requires) c.index_mut-row.ensures.value c.row.view_is in
    on_own (OwnPops c.pop.result) _ _ _ c.args.cache _ c.index_mut-own.result.now c.pop.new.self o c.requires c.index_mut-own.ensures.value (record { index = c.pop.ensures.index; popped = c.pop.ensures.popped; weights = c.pop.ensures.weights; chunk = c.pop.ensures.chunk })

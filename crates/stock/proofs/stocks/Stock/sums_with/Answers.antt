use Rattle.std.proofs.Common.{refl, arith}
use Rattle.deed_core.proofs.LawProofs.{slice_get_some}
use Rattle.stock.proofs.Summing.{all_told, tells}
use Rattle.stock.proofs.stocks.Stock.sums_with.Goals as goal

pub slab_units-slab-requires-clause-fits : goal.slab_units-slab-requires-clause-fits
slab_units-slab-requires-clause-fits g c s at =
    let all = all_told c.args.self.now c.count.ensures.stock c.args.arena s at c.requires.balanced.0 c.requires.balanced.1 in
    omega (arith, all, c.arena_report-report.ensures.span s at)

pub exported_units-exported-requires : goal.exported_units-exported-requires
exported_units-exported-requires g c =
    let s = slice_get_some c.args.self.now c.args.arena c.requires.within in
    let all = all_told c.args.self.now c.count.ensures.stock c.args.arena s.0 s.1 c.requires.balanced.0 c.requires.balanced.1 in
    record { fits = omega (arith, all, c.arena_report-report.ensures.span s.0 s.1) }

pub overflow_add-elsewhere : goal.overflow_add-elsewhere
overflow_add-elsewhere g c =
    let s = slice_get_some c.args.self.now c.args.arena c.requires.within in
    let all = all_told c.args.self.now c.count.ensures.stock c.args.arena s.0 s.1 c.requires.balanced.0 c.requires.balanced.1 in
    omega (arith, all, c.arena_report-report.ensures.span s.0 s.1, c.slab_units-slab.ensures s.0 s.1, c.requires.depots s.0 s.1)

pub overflow_add-elsewhere-2 : goal.overflow_add-elsewhere-2
overflow_add-elsewhere-2 g c =
    let s = slice_get_some c.args.self.now c.args.arena c.requires.within in
    let all = all_told c.args.self.now c.count.ensures.stock c.args.arena s.0 s.1 c.requires.balanced.0 c.requires.balanced.1 in
    omega (arith, all, c.arena_report-report.ensures.span s.0 s.1, c.slab_units-slab.ensures s.0 s.1, c.requires.depots s.0 s.1, c.exported_units-exported.ensures)

pub overflow_sub-result : goal.overflow_sub-result
overflow_sub-result g c =
    let s = slice_get_some c.args.self.now c.args.arena c.requires.within in
    let all = all_told c.args.self.now c.count.ensures.stock c.args.arena s.0 s.1 c.requires.balanced.0 c.requires.balanced.1 in
    omega (arith, all, c.arena_report-report.ensures.span s.0 s.1, c.arena_report-report.ensures.free s.0 s.1, c.arena_report-report.ensures.adds_up, c.slab_units-slab.ensures s.0 s.1, c.requires.depots s.0 s.1, c.exported_units-exported.ensures)

pub returns : goal.returns
returns g c out accounts s at =
    let all = all_told c.args.self.now c.count.ensures.stock c.args.arena s at out accounts in
    let span = c.arena_report-report.ensures.span s at in
    let free = c.arena_report-report.ensures.free s at in
    let slab = c.slab_units-slab.ensures s at in
    let depots = c.requires.depots s at in
    let exported = c.exported_units-exported.ensures in
    tells c.args.self.now c.count.ensures.stock c.args.arena s at out accounts _ free slab depots exported (omega (arith, all, span, free, slab, depots, exported, c.arena_report-report.ensures.adds_up)) refl

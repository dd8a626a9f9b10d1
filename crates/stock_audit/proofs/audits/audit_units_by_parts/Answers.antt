use Rattle.std.proofs.Common.{arith}
use Rattle.deed_core.proofs.LawProofs.{slice_get_some}
use Rattle.stock.specs.Sums.{all_out}
use Rattle.stock_audit.proofs.Auditing.{told_parts, moved_left}
use Rattle.stock_audit.proofs.audits.audit_units_by_parts.Goals as goal

pub sums_by_parts-sums-requires-clause-balanced : goal.sums_by_parts-sums-requires-clause-balanced
sums_by_parts-sums-requires-clause-balanced g c = (all_out c.requires.balanced.out, c.requires.balanced.accounts)

pub overflow_add-magazine : goal.overflow_add-magazine
overflow_add-magazine g c =
    let s = slice_get_some c.args.stock.now c.args.arena c.requires.within in
    let b = c.requires.balanced in
    let told = c.sums_by_parts-sums.ensures (all_out b.out) b.accounts s.0 s.1 in
    omega (arith, told_parts c.args.stock.now c.count.ensures.stock c.args.arena s.0 s.1 c.args.out b c.sums_by_parts-sums.result told, c.arena_report-report.ensures.span s.0 s.1)

pub overflow_add-elsewhere : goal.overflow_add-elsewhere
overflow_add-elsewhere g c =
    let s = slice_get_some c.args.stock.now c.args.arena c.requires.within in
    let b = c.requires.balanced in
    let told = c.sums_by_parts-sums.ensures (all_out b.out) b.accounts s.0 s.1 in
    omega (arith, told_parts c.args.stock.now c.count.ensures.stock c.args.arena s.0 s.1 c.args.out b c.sums_by_parts-sums.result told, c.arena_report-report.ensures.span s.0 s.1)

pub overflow_add-elsewhere-2 : goal.overflow_add-elsewhere-2
overflow_add-elsewhere-2 g c =
    let s = slice_get_some c.args.stock.now c.args.arena c.requires.within in
    let b = c.requires.balanced in
    let told = c.sums_by_parts-sums.ensures (all_out b.out) b.accounts s.0 s.1 in
    omega (arith, told_parts c.args.stock.now c.count.ensures.stock c.args.arena s.0 s.1 c.args.out b c.sums_by_parts-sums.result told, c.arena_report-report.ensures.span s.0 s.1)

pub overflow_add-elsewhere-3 : goal.overflow_add-elsewhere-3
overflow_add-elsewhere-3 g c =
    let s = slice_get_some c.args.stock.now c.args.arena c.requires.within in
    let b = c.requires.balanced in
    let told = c.sums_by_parts-sums.ensures (all_out b.out) b.accounts s.0 s.1 in
    omega (arith, told_parts c.args.stock.now c.count.ensures.stock c.args.arena s.0 s.1 c.args.out b c.sums_by_parts-sums.result told, c.arena_report-report.ensures.span s.0 s.1)

pub overflow_sub-result : goal.overflow_sub-result
overflow_sub-result g c =
    let s = slice_get_some c.args.stock.now c.args.arena c.requires.within in
    let b = c.requires.balanced in
    let told = c.sums_by_parts-sums.ensures (all_out b.out) b.accounts s.0 s.1 in
    omega (arith, told_parts c.args.stock.now c.count.ensures.stock c.args.arena s.0 s.1 c.args.out b c.sums_by_parts-sums.result told, c.arena_report-report.ensures.span s.0 s.1, c.arena_report-report.ensures.free s.0 s.1, c.arena_report-report.ensures.adds_up)

pub returns : goal.returns
returns g c o tally s at =
    let b = c.requires.balanced in
    let report = c.arena_report-report.ensures in
    let told = c.sums_by_parts-sums.ensures (all_out b.out) b.accounts s at in
    let parts = told_parts c.args.stock.now c.count.ensures.stock c.args.arena s at c.args.out b c.sums_by_parts-sums.result told in
    moved_left c.args.stock.now c.count.ensures.stock c.args.arena s at c.args.out b c.sums_by_parts-sums.result told _ _ (report.free s at) (omega (arith, parts, report.span s at, report.free s at, report.adds_up)) o tally

use Rattle.std.proofs.Common.{arith}
use Rattle.deed_core.proofs.LawProofs.{slice_get_some}
use Rattle.stock.specs.Sums.{all_out}
use Rattle.stock_audit.proofs.Auditing.{moved, moved_fits}
use Rattle.stock_audit.proofs.audits.with_out.Goals as goal

pub overflow_add-result : goal.overflow_add-result
overflow_add-result g c =
    let s = slice_get_some c.args.stock.now c.args.arena c.requires.within in
    let b = c.requires.balanced in
    let told = c.requires.told (all_out b.out) b.accounts s.0 s.1 in
    omega (arith, moved_fits c.args.stock.now c.count.ensures.stock c.args.arena s.0 s.1 c.args.out b c.args.sums told, c.arena_report.ensures.span s.0 s.1)

pub returns : goal.returns
returns g c o tally s at =
    let b = c.requires.balanced in
    let told = c.requires.told (all_out b.out) b.accounts s at in
    moved c.args.stock.now c.count.ensures.stock c.args.arena s at c.args.out b c.args.sums told o tally

use Rattle.std.proofs.Common.{◌≡◌, arith}
use Rattle.deed_core.proofs.LawProofs.{slice_get_some}
use Rattle.stock_audit.specs.Outside.{outside, out_of}
use Rattle.stock.specs.OwnCaches.{all_own_rounds}
use Rattle.stock_audit.specs.Audits.{units_of_arena_in}
use Rattle.stock_audit.proofs.Auditing.{rounds_fit}
use Rattle.stock_audit.proofs.audits.audit.Goals as goal

pub audit_units-requires-clause-balanced : goal.audit_units-requires-clause-balanced
audit_units-requires-clause-balanced g c =
    let s = slice_get_some c.args.stock.now c.args.arena c.requires.within in
    let out = out_of (outside c.args.hands.now c.args.leases.now c.args.cpus.now) in
    let fit = rounds_fit c.args.stock.now c.count.ensures.stock c.args.arena s.0 s.1 out c.requires.balanced in
    let rounds : c.rounds_units.result ≡ units_of_arena_in c.args.arena (all_own_rounds c.args.cpus.now) = omega (arith, fit, c.arena_report.ensures.span s.0 s.1, c.rounds_units.ensures) in
    record { out = out; accounts = c.requires.balanced; tally = record { rounds = rounds; leased = c.units_of.ensures; hand = c.units_of-2.ensures } }

pub returns : goal.returns
returns g c =
    let s = slice_get_some c.args.stock.now c.args.arena c.requires.within in
    let out = out_of (outside c.args.hands.now c.args.leases.now c.args.cpus.now) in
    let fit = rounds_fit c.args.stock.now c.count.ensures.stock c.args.arena s.0 s.1 out c.requires.balanced in
    let rounds : c.rounds_units.result ≡ units_of_arena_in c.args.arena (all_own_rounds c.args.cpus.now) = omega (arith, fit, c.arena_report.ensures.span s.0 s.1, c.rounds_units.ensures) in
    c.audit_units.ensures out (record { rounds = rounds; leased = c.units_of.ensures; hand = c.units_of-2.ensures })

use Rattle.std.proofs.Common.{◌≡◌, ◌++◌, ◌∙◌, ◌≤◌, ◌-◌, ◌^◌, ap, length, Some, arith}
use Rattle.std.specs.Prelude.{slice_get}
use Rattle.deed_core.specs.Covering.{units_held}
use Rattle.deed_core.proofs.LawProofs.{slice_get_some}
use Rattle.tag_arena.specs.ArenaState.{spans_of}
use Rattle.stock_audit.specs.Outside.{out_of}
use Rattle.stock_audit.specs.Audits.{told_sums}
use Rattle.arena_tree.specs.declared.trees.TreeArena.{TreeArena}
use Rattle.stock.specs.Spaces.{SpaceState}
use Rattle.lease_proto.specs.Reports.{audit_text}
use Rattle.lease_machine.specs.Picture.{Picture, IsPicture, held_outside}
use Rattle.lease_machine.specs.Operators.{audit_line, sums_in}
use Rattle.stock_desk.proofs.Balances.{same_length, parts_tally, parts_balance, line_told, on_ok}
use Rattle.stock_desk.proofs.reports.tell_arena.Goals as goal
use Rattle.stock_desk.specs.Supplies.{HasParts}

pub audit_units-sums-requires-clause-balanced : goal.audit_units-sums-requires-clause-balanced
audit_units-sums-requires-clause-balanced c =
    let (d, is, parts) = c.requires.parts in
    let long = same_length d is in
    let within = c.requires.within in
    let (s, at) = slice_get_some c.args.stock.now c.args.arena (omega (arith, within, long, ap length parts.stock, ap length parts.arenas)) in
    let fits : units_held (spans_of s.arena) ≤ 2 ^ 128 - 1 = omega (arith, c.arena_report.ensures.span s at) in
    parts_balance c.args.tree.now c.args.stock.now c.args.cpus.now c.args.book.now d is parts c.args.arena s at c.rounds_of.result c.units.result c.rounds_of.ensures c.units.ensures.value fits

pub returns-clause-ok : goal.returns-clause-ok
returns-clause-ok c = on_ok c.write.result
    (c.write.new.out.items ≡ c.args.out.now.items ++ audit_text (audit_line c.arena.result.now.name (told_sums c.audit_units-sums.result)))
    ((d : Picture) (x : TreeArena) (s : SpaceState) → IsPicture d → HasParts c.args.tree.now c.args.stock.now c.args.cpus.now c.args.book.now d
    → slice_get c.args.tree.now c.args.arena ≡ Some x → slice_get c.args.stock.now c.args.arena ≡ Some s
    → c.write.new.out.items ≡ c.args.out.now.items ++ audit_text (audit_line x.name (sums_in d s)))
    (λ wrote d x s is parts here at.
    (let fits : units_held (spans_of s.arena) ≤ 2 ^ 128 - 1 = omega (arith, c.arena_report.ensures.span s at) in
    let tally = parts_tally c.args.tree.now c.args.stock.now c.args.cpus.now c.args.book.now d is parts c.args.arena s at c.rounds_of.result c.units.result c.rounds_of.ensures c.units.ensures.value fits in
    wrote ∙ ap (λ z. c.args.out.now.items ++ z) (line_told c.args.tree.now c.args.stock.now c.args.cpus.now c.args.book.now d is parts c.args.arena s at c.rounds_of.result c.units.result c.rounds_of.ensures c.units.ensures.value fits
    c.audit_units-sums.result c.arena.result.now x c.arena.ensures.here here (c.audit_units-sums.ensures (out_of (held_outside d)) tally s at))))
    c.write.ensures.ok

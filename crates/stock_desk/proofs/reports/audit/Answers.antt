use Rattle.std.proofs.Common.{◌≡◌, ◌<◌, ◌∙◌, ◌+◌, ◌++◌, suc, sym, ap, List, length, arith}
use Rattle.std.specs.Io.{StartsWith}
use Rattle.std.proofs.lemmas.List.{append_assoc}
use Rattle.deed_core.proofs.LawProofs.{slice_get_some}
use Rattle.arena_tree.specs.declared.trees.TreeArena.{TreeArena}
use Rattle.stock.specs.Spaces.{SpaceState}
use Rattle.lease_proto.specs.Reports.{audit_text}
use Rattle.lease_machine.specs.Operators.{audit_line, audit_texts_of, sums_in}
use Rattle.stock_desk.proofs.Audited.{first_told, told_more, told_all}
use Rattle.stock_desk.proofs.Balances.{same_length, starts_through, always_on_err}
use Rattle.stock_desk.proofs.reports.audit.Goals as goal

pub returns-in_err-tell_arena-clause-begun : goal.returns-in_err-tell_arena-clause-begun
returns-in_err-tell_arena-clause-begun c =
    let (d, is, parts) = c.requires in
    always_on_err c.from_residual.result (StartsWith c.tell_arena.new.out.items c.args.out.now.items)
    (starts_through c.args.out.now.items (first_told d c.loop-arena.arena c.args.tree.now c.args.stock.now) c.loop-arena.out.items c.tell_arena.new.out.items (c.loop-arena.invariant d is parts) c.in_err-tell_arena.ensures.begun)

pub loop-arena-preserved : goal.loop-arena-preserved
loop-arena-preserved c d is parts =
    let count = c.len-arena-end.ensures.value in
    let within : c.loop-arena.arena < length c.args.tree.now = omega (arith, count) in
    let (x, here) = slice_get_some c.args.tree.now c.loop-arena.arena within in
    let (s, at) = slice_get_some c.args.stock.now c.loop-arena.arena (omega (arith, within, same_length d is, ap length parts.stock, ap length parts.arenas)) in
    let more : suc c.loop-arena.arena ≡ c.loop-arena.arena + 1 = omega arith in
    c.in_ok-tell_arena.ensures.ok d x s is parts here at
    ∙ ap (λ z. z ++ audit_text (audit_line x.name (sums_in d s))) (c.loop-arena.invariant d is parts)
    ∙ append_assoc c.args.out.now.items (first_told d c.loop-arena.arena c.args.tree.now c.args.stock.now) (audit_text (audit_line x.name (sums_in d s)))
    ∙ ap (λ z. c.args.out.now.items ++ z) (sym (told_more d c.loop-arena.arena c.args.tree.now c.args.stock.now x s here at))
    ∙ ap (λ n. c.args.out.now.items ++ first_told d n c.args.tree.now c.args.stock.now) more

pub returns-clause-ok : goal.returns-clause-ok
returns-clause-ok c d is parts =
    let count = c.len-arena-end.ensures.value in
    let few = c.len-arena-end.ensures.tree.few in
    let whole : c.loop-arena.arena ≡ length c.args.tree.now = omega (arith, count, few) in
    c.loop-arena.invariant d is parts
    ∙ ap (λ z. c.args.out.now.items ++ z) (told_all d c.loop-arena.arena c.args.tree.now c.args.stock.now whole
    ∙ ap (λ (t : List TreeArena). audit_texts_of d t c.args.stock.now) (sym parts.arenas) ∙ ap (λ (z : List SpaceState). audit_texts_of d d.tree z) (sym parts.stock))

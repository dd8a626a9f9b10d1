use Rattle.std.proofs.Common.{◌∙◌, ap, refl, sym, subst}
use Rattle.lease_proto.specs.declared.operators.OperatorLine.{OperatorLine}
use Rattle.lease_machine.specs.Operators.{LeavesOff, audit_texts_of}
use Rattle.stock_desk.specs.Operators.{IsPerformed}
use Rattle.stock_desk.specs.Supplies.{SupplyState, picture_with}
use Rattle.stock_desk.proofs.Balances.{on_ok}
use Rattle.stock_desk.proofs.Performing.{on_err_map, keeps_none}
use Rattle.stock_desk.proofs.operators.tell_all.Goals as goal

pub returns-in-Cpu-clause-left : goal.returns-in-Cpu-clause-left
returns-in-Cpu-clause-left c = on_err_map c.tell_cpu.result _ _
    (λ left. subst (λ (o : OperatorLine). LeavesOff o (picture_with c.args.book.now c.args.supply.now) (picture_with c.args.book.now c.tell_cpu.new.supply)) (sym c.in-Cpu.is) (left c.args.book.now))
    c.tell_cpu.ensures.left

pub returns-in-Offline-clause-left : goal.returns-in-Offline-clause-left
returns-in-Offline-clause-left c = on_err_map c.tell_offline.result _ _
    (λ left. subst (λ (o : OperatorLine). LeavesOff o (picture_with c.args.book.now c.args.supply.now) (picture_with c.args.book.now c.tell_offline.new.supply)) (sym c.in-Offline.is) (left c.args.book.now))
    c.tell_offline.ensures.left

pub returns-in-Audit-clause-ok : goal.returns-in-Audit-clause-ok
returns-in-Audit-clause-ok c =
    let d = picture_with c.args.book.now c.args.supply.now in
    on_ok c.audit.result _ _
    (λ told. (
      audit_texts_of d d.tree d.spaces,
      told d c.requires.picture
          (record {
            arenas = ap (λ (s : SupplyState). s.tree) (sym c.supply.view_is);
            stock = ap (λ (s : SupplyState). s.spaces) (sym c.supply.view_is);
            made = ap (λ (s : SupplyState). s.cpus) (sym c.supply.view_is) ∙ sym c.as_slice.ensures.value;
            ledger = refl;
          }),
      subst (λ (o : OperatorLine). IsPerformed o d (audit_texts_of d d.tree d.spaces) d) (sym c.in-Audit.is) (record { performs = (refl, refl); kept = keeps_none d c.requires.picture }),
    ))
    c.audit.ensures.ok

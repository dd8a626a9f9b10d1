use Rattle.std.proofs.Common.{subst}
use Rattle.std.proofs.lemmas.Result.{err_from_is_err_and}
use Rattle.arena_tree.specs.Settings.{SetupState}
use Rattle.lease_machine.specs.Machine.{LeaseStep}
use Rattle.lease_server.specs.Watching.{inner_of, streams_of}
use Rattle.stock_desk.specs.Openings.{IsOpenedFrom}
use Rattle.vmemd_setup.specs.Settings.{TakesSetupLine, RefusesSetupLine, CanTakeSetupLine, no_arenas}
use Rattle.vmemd_setup.specs.Setups.{SetupFails, TakesSetup}
use Rattle.vmemd.proofs.RunLemmas.{setup_fails, open_fails, run_whole, serving_fails}
use Rattle.vmemd.proofs.scripts.run_script.Goals as goal

pub returns-in_err-input-clause-err : goal.returns-in_err-input-clause-err
returns-in_err-input-clause-err g c =
    let p = err_from_is_err_and c.from_residual.result c.from_residual.ensures.1 in
    let unread = g.R.Read.remaining (inner_of c.args.reader.now) in
    let left = g.R.Read.remaining (inner_of c.take_setup.new.reader) in
    let fails = subst (λ (s : SetupState). SetupFails TakesSetupLine RefusesSetupLine CanTakeSetupLine s unread left c.take_setup.new.setup c.in_err-input.field-0.0) c.new-setup.ensures c.in_err-input.ensures.err in
    rw (p.1, p.2) (setup_fails TakesSetupLine RefusesSetupLine CanTakeSetupLine IsOpenedFrom LeaseStep no_arenas c.take_setup.new.setup unread left
    (g.W.Write.contents (inner_of c.args.writer.now)) c.in_err-input.field-0.0 fails)

pub returns-in_err-desk-clause-err : goal.returns-in_err-desk-clause-err
returns-in_err-desk-clause-err g c =
    let p = err_from_is_err_and c.from_residual-in_err-desk.result c.from_residual-in_err-desk.ensures.1 in
    let unread = g.R.Read.remaining (inner_of c.args.reader.now) in
    let mid = g.R.Read.remaining (inner_of c.take_setup.new.reader) in
    let taken = subst (λ (s : SetupState). TakesSetup TakesSetupLine s unread mid c.take_setup.new.setup c.in_ok-input.input) c.new-setup.ensures c.in_ok-input.ensures.ok in
    rw (p.1, p.2) (open_fails TakesSetupLine RefusesSetupLine CanTakeSetupLine IsOpenedFrom LeaseStep no_arenas c.take_setup.new.setup unread mid
    (g.W.Write.contents (inner_of c.args.writer.now)) c.in_ok-input.input taken)

pub returns-in_err-served-clause-err : goal.returns-in_err-served-clause-err
returns-in_err-served-clause-err g c =
    let opened : IsOpenedFrom c.take_setup.new.setup c.in_ok-desk.desk = c.in_ok-desk.ensures.opened in
    let p = err_from_is_err_and c.from_residual-in_err-served.result c.from_residual-in_err-served.ensures.1 in
    let unread = g.R.Read.remaining (inner_of c.args.reader.now) in
    let mid = g.R.Read.remaining (inner_of c.take_setup.new.reader) in
    let taken = subst (λ (s : SetupState). TakesSetup TakesSetupLine s unread mid c.take_setup.new.setup c.in_ok-input.input) c.new-setup.ensures c.in_ok-input.ensures.ok in
    rw (p.1, p.2) (serving_fails TakesSetupLine RefusesSetupLine CanTakeSetupLine IsOpenedFrom LeaseStep no_arenas c.take_setup.new.setup c.in_ok-desk.desk c.serve-served.new.responder
    unread c.in_ok-input.input
    (streams_of g.R.Read.remaining g.W.Write.contents c.take_setup.new.reader c.args.writer.now)
    (streams_of g.R.Read.remaining g.W.Write.contents c.serve-served.new.reader c.serve-served.new.writer)
    c.in_err-served.field-0.0 taken opened c.in_err-served.ensures.err)

pub returns-clause-ok : goal.returns-clause-ok
returns-clause-ok g c =
    let opened : IsOpenedFrom c.take_setup.new.setup c.in_ok-desk.desk = c.in_ok-desk.ensures.opened in
    let unread = g.R.Read.remaining (inner_of c.args.reader.now) in
    let mid = g.R.Read.remaining (inner_of c.take_setup.new.reader) in
    let taken = subst (λ (s : SetupState). TakesSetup TakesSetupLine s unread mid c.take_setup.new.setup c.in_ok-input.input) c.new-setup.ensures c.in_ok-input.ensures.ok in
    run_whole TakesSetupLine RefusesSetupLine CanTakeSetupLine IsOpenedFrom LeaseStep no_arenas c.take_setup.new.setup c.in_ok-desk.desk unread mid c.in_ok-input.input taken opened
    c.serve-served.new.responder (g.W.Write.contents (inner_of c.args.writer.now)) (g.W.Write.contents (inner_of c.serve-served.new.writer))
    c.in_ok-served.ensures.ok.0

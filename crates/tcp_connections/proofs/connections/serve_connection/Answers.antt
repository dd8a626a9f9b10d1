use Rattle.std.proofs.Common.{Result, Ok, Err, OnOk, IfErr, subst}
use Rattle.lease_server.specs.declared.faults.ServeFault.{ServeFault}
use Rattle.lease_server.specs.Intakes.{IntakeState}
use Rattle.lease_server.specs.Serving.{ServesAll, ServeFails}
use Rattle.lease_server.specs.Watching.{streams_of}
use Rattle.tcp_connections.specs.Connections.{ServesConnection, BreaksOff}
use Rattle.tcp_connections.specs.Replying.{MayAnswer}
use Rattle.tcp_connections.proofs.connections.serve_connection.Goals as goal

-- what holds where a result is Ok, from what holds there
at_ok : {A E : Type 0} (r : Result A E) (P Q : Type 0) → (P → Q) → OnOk r P → OnOk r Q
at_ok (Ok x) P Q f p = f p
at_ok (Err e) P Q f p = tt

-- what holds of a fault, from what holds of it
at_err : {A E : Type 0} (r : Result A E) (P Q : E → Type 0) → ((e : E) → P e → Q e) → IfErr r P → IfErr r Q
at_err (Ok x) P Q f p = tt
at_err (Err e) P Q f p = f e p

pub returns-clause-ok : goal.returns-clause-ok
returns-clause-ok g c =
    let old = streams_of g.R.Read.remaining g.W.Write.contents c.args.reader.now c.args.writer.now in
    let new = streams_of g.R.Read.remaining g.W.Write.contents c.serve-served.new.reader c.serve-served.new.writer in
    let served = λ (i : IntakeState). ServesAll (MayAnswer g.K.Worker.may_reply g.C.Counter.may_count) i.hand old new c.args.lines.now c.serve-served.new.responder in
    at_ok c.serve-served.result
    (served c.new-input.result)
    (ServesConnection g.K.Worker.may_reply g.C.Counter.may_count g.K.Worker.may_tidy old new c.args.lines.now c.tidy.new.self)
    (λ all. (c.serve-served.new.responder, subst served c.new-input.ensures all, c.tidy.ensures))
    c.serve-served.ensures.ok

pub returns-clause-err : goal.returns-clause-err
returns-clause-err g c =
    let old = streams_of g.R.Read.remaining g.W.Write.contents c.args.reader.now c.args.writer.now in
    let new = streams_of g.R.Read.remaining g.W.Write.contents c.serve-served.new.reader c.serve-served.new.writer in
    let fails = λ (i : IntakeState) (fault : ServeFault). ServeFails (MayAnswer g.K.Worker.may_reply g.C.Counter.may_count) i old new c.args.lines.now c.serve-served.new.responder fault in
    at_err c.serve-served.result
    (fails c.new-input.result)
    (BreaksOff g.K.Worker.may_reply g.C.Counter.may_count g.K.Worker.may_tidy old new c.args.lines.now c.tidy.new.self)
    (λ fault broken. (c.serve-served.new.responder, subst (λ i. fails i fault) c.new-input.ensures broken, c.tidy.ensures))
    c.serve-served.ensures.err

pub returns-clause-served : goal.returns-clause-served
returns-clause-served g c = (c.serve-served.new.responder, c.serve-served.ensures.answered, c.tidy.ensures)

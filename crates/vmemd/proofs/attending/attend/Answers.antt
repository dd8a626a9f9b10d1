use Rattle.std.proofs.Common.{[], List, ℕ, refl, subst}
use Rattle.std.specs.Io.KnownBytes.{Appends}
use Rattle.arena_tree.specs.declared.trees.TreeArena.{TreeArena}
use Rattle.lease_server.specs.Serving.{WritesFront}
use Rattle.lease_server.specs.Watching.{streams_of}
use Rattle.vmemd.specs.Running.{AnswersBehind, console_streams}
use Rattle.vmemd.proofs.RunningLemmas.{addressed, behind, unanswered}
use Rattle.vmemd.proofs.attending.attend.Goals as goal
use Rattle.vmemd.proofs.attending.attend.Goals.{in-Ok, in-Err}

pub returns-clause-told : goal.returns-clause-told
returns-clause-told g c =
    let arenas = c.args.site.now.system.now.arenas in
    let line = c.args.site.now.listener.now in
    let old = console_streams g.I.Read.remaining g.W.Write.contents c.args.console in
    let mid = streams_of g.I.Read.remaining g.W.Write.contents c.args.console.input c.deliver.new.writer in
    elim c.match-deliver.branch [
      | in-Ok w ↦
          let new = streams_of g.I.Read.remaining g.W.Write.contents w.answer_input-ended.new.input w.answer_input-ended.new.out in
          let told = subst (λ (a : List TreeArena). AnswersBehind a [] mid new w.answer_input-ended.result) c.new-roots.ensures w.answer_input-ended.ensures in
          rw (w.ended-is, w.input-is, w.out-is) (behind arenas line old mid new w.answer_input-ended.result
          (subst (λ (l : List ℕ). Appends old.written mid.written l) c.line.ensures.value w.in-Ok.ensures.ok) refl refl told)
      | in-Err w ↦
          rw (w.ended-is, w.out-is) (unanswered arenas line old mid
          (subst (λ (l : List ℕ). WritesFront l old.written mid.written) c.line.ensures.value w.in-Err.ensures.err) w.in-Err.ensures.failed)
    ]

pub returns-clause-attends : goal.returns-clause-attends
returns-clause-attends g c =
    let arenas = c.args.site.now.system.now.arenas in
    let (address, is) = c.line.ensures.told in
    let old = console_streams g.I.Read.remaining g.W.Write.contents c.args.console in
    let new = console_streams g.I.Read.remaining g.W.Write.contents record { input = c.match-deliver.input; out = c.match-deliver.out } in
    addressed arenas address old new c.match-deliver.ended
    (subst (λ (l : List ℕ). AnswersBehind arenas l old new c.match-deliver.ended) is (returns-clause-told g c))

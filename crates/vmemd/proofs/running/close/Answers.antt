use Rattle.std.proofs.Common.{refl, subst, sym}
use Rattle.vmemd.specs.Running.{Attends, Closes, ServesToItsEnd, console_streams}
use Rattle.vmemd.proofs.RunningLemmas.{run_fails, run_closes}
use Rattle.vmemd.proofs.running.close.Goals as goal
use Rattle.vmemd.proofs.running.close.Goals.{in-Ok, in-Err}

pub returns-clause-runs : goal.returns-clause-runs
returns-clause-runs g c = λ arenas old a.
    let mid = console_streams g.I.Read.remaining g.W.Write.contents c.args.ran.console in
    let new = console_streams g.I.Read.remaining g.W.Write.contents record { input = c.args.ran.console.input; out = c.match-ended.out } in
    elim c.match-ended.branch [
      | in-Ok w ↦
          let closes : Closes mid.written new.written mid.writer_failed new.writer_failed c.match-ended.ended = rw (w.ended-is, w.out-is) w.tell_closed-ended.ensures.closes in
          run_closes arenas old mid new tt c.match-ended.ended (subst (λ e. Attends arenas old mid e) w.in-Ok.is a) refl refl closes
      | in-Err w ↦
          let fails = run_fails arenas old mid w.in-Err.fault (subst (λ e. Attends arenas old mid e) w.in-Err.is a) in
          subst (λ o. ServesToItsEnd arenas old (console_streams g.I.Read.remaining g.W.Write.contents record { input = c.args.ran.console.input; out = o }) c.match-ended.ended)
          (sym w.out-is) (subst (λ e. ServesToItsEnd arenas old mid e) (sym w.ended-is) fails)
    ]

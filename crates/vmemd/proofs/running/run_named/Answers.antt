use Rattle.std.proofs.Common.{List, subst}
use Rattle.arena_tree.specs.declared.trees.TreeArena.{TreeArena}
use Rattle.vmemd.specs.Running.{Attends, ServesToItsEnd, console_streams}
use Rattle.vmemd.proofs.running.run_named.Goals as goal
use Rattle.vmemd.proofs.running.run_named.Goals.{in-None, in-Some}

pub returns-clause-served : goal.returns-clause-served
returns-clause-served g c =
    let system = c.in-Ok-new.system in
    let old = console_streams g.I.Read.remaining g.W.Write.contents c.args.console in
    let ran = c.match-watching.ran in
    let attends : Attends system.arenas old (console_streams g.I.Read.remaining g.W.Write.contents ran.console) ran.ended =
    elim c.match-watching.branch [
      | in-None w ↦ rw w.ran-is w.serve_planned-ran.ensures
      | in-Some w ↦ rw w.ran-is w.serve_watched-ran.ensures
    ] in
    subst (λ (arenas : List TreeArena). ServesToItsEnd arenas old (console_streams g.I.Read.remaining g.W.Write.contents c.close.result.console) c.close.result.ended)
    c.in-Ok-new.ensures.made.arenas (c.close.ensures.runs system.arenas old attends)

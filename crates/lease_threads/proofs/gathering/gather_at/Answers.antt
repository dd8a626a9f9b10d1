use Rattle.std.proofs.Common.{◌≡◌, ◌+◌, ◌∙◌, ℕ, List, Ok, Err, IfOk, OnOk, set, get_or, subst, sym}
use Rattle.std.specs.Prelude.{Result}
use Rattle.std.specs.Global.{Vec}
use Rattle.deed_core.specs.Extent.{Extent}
use Rattle.deed_core.specs.Holding.{Holding}
use Rattle.deed_core.proofs.LawProofs.{read_is}
use Rattle.lease_threads.specs.Ends.{AreInTurn, AreRangesFor, AreRootsIn, InTurn, TellsArena}
use Rattle.lease_threads.specs.Systems.{SystemState}
use Rattle.lease_threads.proofs.Gathered.{more_at, so_at}
use Rattle.lease_threads.proofs.gathering.gather_at.Goals as goal

-- what is told of the roots that stand there is told of that arena
tells_at : {E : Type 0} (s : SystemState) (id : ℕ) (v : Vec Holding) (told : Result (Vec Extent) E) → v ≡ get_or s.roots id v → IfOk told (λ t. AreRangesFor id v.items t.items)
    → IfOk told (λ t. TellsArena s id t.items)
tells_at s id v (Err e) read is = is
tells_at s id v (Ok t) read is = λ own at. subst (λ (o : Vec Holding). AreRangesFor id o.items t.items) (read_is s.roots id v own read at) is

turns_at : {E : Type 0} (roots : List (Vec Holding)) (id : ℕ) (w : Vec Holding) (told : Result (Vec Extent) E) → OnOk told (InTurn w.items)
    → OnOk told (AreInTurn id roots → AreInTurn (id + 1) (set roots id w))
turns_at roots id w (Err e) turn = turn
turns_at roots id w (Ok t) turn = so_at InTurn roots id w turn

pub returns-clause-roots : goal.returns-clause-roots
returns-clause-roots g c =
    let s = c.system.inside in
    let count = sym s.roots.ok.0 ∙ c.system.invariant.0 in
    subst (λ (t : SystemState). AreRootsIn t (set s.roots.items c.args.id c.gather_roots.new.roots)) c.system.view_is
    (more_at (record { arenas = s.parts.arenas; roots = s.roots.items }) c.args.id c.index_mut.result.now c.gather_roots.new.roots count c.index_mut.ensures.value c.gather_roots.ensures.roots)

pub returns-clause-told : goal.returns-clause-told
returns-clause-told g c =
    let s = c.system.inside in
    subst (λ (t : SystemState). IfOk c.gather_roots.result (λ told. TellsArena t c.args.id told.items)) c.system.view_is
    (tells_at (record { arenas = s.parts.arenas; roots = s.roots.items }) c.args.id c.index_mut.result.now c.gather_roots.result c.index_mut.ensures.value c.gather_roots.ensures.told)

pub returns-clause-turn : goal.returns-clause-turn
returns-clause-turn g c =
    let s = c.system.inside in
    subst (λ (t : SystemState). OnOk c.gather_roots.result (AreInTurn c.args.id t.roots → AreInTurn (c.args.id + 1) (set s.roots.items c.args.id c.gather_roots.new.roots))) c.system.view_is
    (turns_at s.roots.items c.args.id c.gather_roots.new.roots c.gather_roots.result c.gather_roots.ensures.turn)

-- A reaping of one arena is done, and leaves nothing of it that could be reaped.
use Rattle.std.proofs.Common.{◌∙◌, arith}
use Rattle.quantum_cache.specs.Laws.{reap_left}
use Rattle.quantum_cache.specs.Reaps.{ReapEnd, reap_arena_plan}
use Rattle.quantum_cache.proofs.LawProofs.{reap_arena_handles}
use Rattle.local_calls.specs.ArenaReaps.{ReapArenaAlwaysDone, ReapArenaLeavesNothing, ReapArenaBringsNothing, ReapArenaTakesFewLooks}
use Rattle.local_calls.specs.Asked.{DoesWell}
use Rattle.local_calls.proofs.EmptyingWells.{well_reap_arena}
use Rattle.local_calls.proofs.Reaped.{arena_reaped, all_of_arena}
use Rattle.local_calls.proofs.ReapLooks.{arena_pays}
use Rattle.local_calls.proofs.Steps.{run_ends_well}

pub reap_arena_always_done : ReapArenaAlwaysDone
reap_arena_always_done arenas chain limit old new others a is local accounted path =
    run_ends_well arenas (λ (r : ReapEnd). DoesWell r) reap_left (reap_arena_plan chain (record { left = limit; units = 0 })) _ others (reap_arena_handles chain (record { left = limit; units = 0 }))
    (well_reap_arena arenas chain is (record { left = limit; units = 0 })) old new a local.plans accounted path

pub reap_arena_leaves_nothing : ReapArenaLeavesNothing
reap_arena_leaves_nothing arenas chain id limit old new r is first local path some =
    let done = arena_reaped arenas local.tree chain id is first (record { left = limit; units = 0 }) r old new path in
    all_of_arena arenas new (done.0.plans ∙ local.plans) id (done.1 some).1

pub reap_arena_brings_nothing : ReapArenaBringsNothing
reap_arena_brings_nothing arenas chain id limit old new r is first local path =
    (arena_reaped arenas local.tree chain id is first (record { left = limit; units = 0 }) r old new path).0.none

pub reap_arena_takes_few_looks : ReapArenaTakesFewLooks
reap_arena_takes_few_looks arenas chain limit old new r is local path =
    let pays = arena_pays arenas local.tree chain is (record { left = limit; units = 0 }) r old new path in
    omega (arith, pays)

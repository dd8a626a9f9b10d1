-- What a call did, by its answer: old states, what was given, the answer, new states.
use Rattle.std.specs.Prelude.{◌≡◌, ◌≢◌, ℕ, ◌<◌, ◌≤◌, ◌⊎◌, [], ◌∷◌, ◌++◌}
use Rattle.std.specs.Prelude.{Option, Some, None, Result, Ok, Err}
use Rattle.deed_core.specs.Tag.{Tag}
use Rattle.magazine_layer.specs.Magazines.{MagazineState, CpuCacheState, BothEmpty, BothFull}
use Rattle.magazine_layer.specs.Magazines.{Pops, Pushes, after_change}
use Rattle.magazine_layer.specs.Depots.{DepotState, SwapsForFull, SwapsForEmpty, PutsFull}
use Rattle.magazine_layer.specs.Depots.{ReapsRound, CanReap, after_resize, after_trim, depot_rounds}
use Rattle.magazine_layer.specs.declared.faults.FullFault.{FullFault}
use Rattle.magazine_layer.specs.declared.faults.FullFault.TheVariants as full_fault
use Rattle.magazine_layer.specs.declared.faults.EmptyFault.{EmptyFault}
use Rattle.magazine_layer.specs.declared.faults.EmptyFault.TheVariants as empty_fault
use Rattle.magazine_layer.specs.declared.faults.PutFullFault.{PutFullFault}
use Rattle.magazine_layer.specs.declared.faults.PutFullFault.TheVariants as put_fault
use Rattle.magazine_layer.specs.declared.faults.NotGreater.{NotGreater}

-- `take` of a magazine: the last round that was put in, or there is none
abbrev pub MagazineTakeOf : MagazineState → Option Tag → MagazineState → Type 0
MagazineTakeOf m (Some x) m' = (m.rounds ≡ m'.rounds ++ x ∷ []) × (m'.size ≡ m.size)
MagazineTakeOf m None m' = (m.rounds ≡ []) × (m' ≡ m)

-- `discard`: an empty magazine is gone, another comes back
abbrev pub DiscardOf : MagazineState → Result (Unit {0}) MagazineState → Type 0
DiscardOf m (Ok _) = m.rounds ≡ []
DiscardOf m (Err back) = (m.rounds ≢ []) × (back ≡ m)

-- `take` of a CPU's cache
abbrev pub PopOf : CpuCacheState → Option Tag → CpuCacheState → Type 0
PopOf c (Some x) c' = Pops x c c'
PopOf c None c' = BothEmpty c × (c' ≡ c)

-- `give` of x
abbrev pub PushOf : CpuCacheState → Tag → Result (Unit {0}) Tag → CpuCacheState → Type 0
PushOf c x (Ok _) c' = Pushes x c c'
PushOf c x (Err back) c' = BothFull c × (back ≡ x) × (c' ≡ c)

-- `change_over` to the size m: `error` is out of memory
abbrev pub ChangeOverOf : {E : Type 0} → CpuCacheState → ℕ → Result (Unit {0}) E →
    CpuCacheState → Type 0
ChangeOverOf c m (Ok _) c' = c' ≡ after_change m c
ChangeOverOf c m (Err error) c' = c' ≡ c

-- `close` of a CPU's cache
abbrev pub CpuCacheCloseOf : CpuCacheState → Result (Unit {0}) CpuCacheState → Type 0
CpuCacheCloseOf c (Ok _) = BothEmpty c
CpuCacheCloseOf c (Err back) = (¬ BothEmpty c) × (back ≡ c)

-- `swap_for_full`
abbrev pub SwapFullOf : CpuCacheState → DepotState → Result (Unit {0}) FullFault →
    CpuCacheState → DepotState → Type 0
SwapFullOf c d (Ok _) c' d' = SwapsForFull c d c' d'
SwapFullOf c d (Err (full_fault.OldSize m)) c' d' =
    (c.size ≢ d.size) × (m ≡ d.size) × (c' ≡ c) × (d' ≡ d)
SwapFullOf c d (Err full_fault.NoneFull) c' d' =
    (c.size ≡ d.size) × (d.full ≡ []) × (c' ≡ c) × (d' ≡ d)

-- `swap_for_empty`
abbrev pub SwapEmptyOf : CpuCacheState → DepotState → Result (Unit {0}) EmptyFault →
    CpuCacheState → DepotState → Type 0
SwapEmptyOf c d (Ok _) c' d' = SwapsForEmpty c d c' d'
SwapEmptyOf c d (Err (empty_fault.OldSize m)) c' d' =
    (c.size ≢ d.size) × (m ≡ d.size) × (c' ≡ c) × (d' ≡ d)
SwapEmptyOf c d (Err empty_fault.NoneEmpty) c' d' =
    (c.size ≡ d.size) × (d.empty ≡ 0) × (c' ≡ c) × (d' ≡ d)

-- `put_full` of the magazine m, which comes back with a refusal; out of memory comes last
abbrev pub PutFullOf : CpuCacheState → DepotState → MagazineState →
    Result (Unit {0}) (PutFullFault MagazineState) → CpuCacheState → DepotState → Type 0
PutFullOf c d m (Ok _) c' d' = PutsFull m c d c' d'
PutFullOf c d m (Err (put_fault.OldSize size back)) c' d' =
    ((c.size ≢ d.size) ⊎ (m.size ≢ d.size)) × (size ≡ d.size) × (back ≡ m) × (c' ≡ c) × (d' ≡ d)
PutFullOf c d m (Err (put_fault.NoMemory back)) c' d' =
    (c.size ≡ d.size) × (m.size ≡ d.size) × (back ≡ m) × (c' ≡ c) × (d' ≡ d)

-- `resize` to m
abbrev pub ResizeOf : DepotState → ℕ → Result (Unit {0}) NotGreater → DepotState → Type 0
ResizeOf d m (Ok _) d' = (d.size < m) × (d' ≡ after_resize m d)
ResizeOf d m (Err _) d' = (m ≤ d.size) × (d' ≡ d)

-- `reap`, which discards the empty magazines that may be reaped whatever it answers
abbrev pub DepotReapOf : DepotState → Option Tag → DepotState → Type 0
DepotReapOf d (Some x) d' = ReapsRound x (after_trim d) d'
DepotReapOf d None d' = (¬ CanReap d) × (d' ≡ after_trim d)

-- `close` of a depot
abbrev pub DepotCloseOf : DepotState → Result (Unit {0}) DepotState → Type 0
DepotCloseOf d (Ok _) = depot_rounds d ≡ []
DepotCloseOf d (Err back) = (depot_rounds d ≢ []) × (back ≡ d)

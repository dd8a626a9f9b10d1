-- What the calls of quantum caches over one thread's parts come to for a picture.
use Rattle.std.specs.Prelude.{◌≡◌, ℕ, ◌<◌, List, [], ◌∷◌, Some, None, Result, Ok, Err, length}
use Rattle.std.specs.Prelude.{slice_get, map}
use Rattle.std.specs.List.{find}
use Rattle.deed_core.specs.Tag.{Tag}
use Rattle.deed_core.specs.Request.{IsGood, IsPlain}
use Rattle.deed_core.specs.declared.requests.Request.{Request}
use Rattle.arena_tree.specs.declared.part_faults.PartFault.{PartFault}
use Rattle.tag_arena.specs.declared.faults.ArenaFault.{ArenaFault}
use Rattle.arena_tree.specs.declared.part_faults.PartFault.TheVariants as asking
use Rattle.tag_arena.specs.declared.faults.ArenaFault.TheVariants as carving
use Rattle.arena_tree.specs.declared.part_faults.ClimbFault.TheVariants as climbing
use Rattle.arena_tree.specs.declared.trees.TreeArena.{TreeArena}
use Rattle.arena_tree.specs.Climbs.{ClimbEnd}
use Rattle.quantum_cache.specs.Allocs.{alloc_plan, xalloc_plan}
use Rattle.quantum_cache.specs.Caches.{chain_in}
use Rattle.quantum_cache.specs.Drains.{drain_plan}
use Rattle.quantum_cache.specs.Frees.{free_plan}
use Rattle.stock.specs.Spaces.{SpaceState}
use Rattle.local_parts.specs.States.{LocalState}
use Rattle.local_calls.specs.Runs.{IsLocalOf, IsAccountedWith, RunsTo}
use Rattle.lease_machine.specs.Picture.{NumberedCpu, Picture, SameSetup, is_cpu, IsHeld}
use Rattle.lease_machine.specs.Chunks.{GoesBack}
use Rattle.lease_machine.specs.Serving.{IsCachedIn, CanServe, ServesWith, ServesNone, FallsBack}
use Rattle.lease_machine.specs.Operators.{GoesOffline, after_renewal}
use Rattle.lease_machine.specs.Held.{parts_in, with_parts}

-- the parts that the selected CPU reaches are set up by the tree, and their accounts balance
abbrev pub HeldIsLocal : Type 0
HeldIsLocal = (d : Picture) → IsHeld [] d
    → IsLocalOf d.tree (parts_in d)
    × ((others : List Tag) × IsAccountedWith (parts_in d) None others)

-- so they do with a segment in a hand, which is one of the tree's
abbrev pub HandIsLocal : Type 0
HandIsLocal = (d : Picture) (t : Tag) → IsHeld (t ∷ []) d
    → IsLocalOf d.tree (parts_in d) × (t.arena < length d.tree)
    × ((others : List Tag) × IsAccountedWith (parts_in d) (Some t) others)

-- a segment in a hand that is freed goes back, and nothing else changes
abbrev pub FreeGoesBack : Type 0
FreeGoesBack = (d : Picture) (t : Tag) (s : LocalState) → IsHeld (t ∷ []) d
    → RunsTo d.tree (free_plan (chain_in d.tree t.arena) t) (parts_in d) s (Ok tt)
    → GoesBack t d (with_parts s d) × IsHeld [] (with_parts s d) × SameSetup d (with_parts s d)

-- what becomes of a constrained request for a segment of the arena, by the answer
abbrev pub IsCarvedFor : ℕ → TreeArena → Request → Picture
    → Result Tag (PartFault ArenaFault) → Picture → Type 0
IsCarvedFor index x q d (Ok t) new = IsGood x.quantum q × CanServe d index x q
    × ServesWith index x q t d new × IsHeld (t ∷ []) new × SameSetup d new
IsCarvedFor index x q d (Err (asking.Refused carving.BadRequest)) new =
    (¬ IsGood x.quantum q) × (new ≡ d)
IsCarvedFor index x q d (Err (asking.Refused carving.NoFit)) new = IsGood x.quantum q
    × ServesNone index x q d new × (new ≡ d)
IsCarvedFor index x q d (Err (asking.Refused carving.NoMemory)) new =
    IsGood x.quantum q × CanServe d index x q
    × FallsBack index x q d new × (new ≡ d)
IsCarvedFor index x q d (Err asking.Stopped) new = ⊥

abbrev pub XallocCarves : Type 0
XallocCarves = (d : Picture) (index : ℕ) (x : TreeArena) (q : Request) (s : LocalState)
    (a : Result Tag (PartFault ArenaFault)) → IsHeld [] d → slice_get d.tree index ≡ Some x
    → ¬ IsPlain q
    → RunsTo d.tree (xalloc_plan index q) (parts_in d) s a
    → IsCarvedFor index x q d a (with_parts s d)

-- and of any other whose size no cache serves
abbrev pub IsClimbedFor : ℕ → TreeArena → Request → Picture → ClimbEnd → Picture → Type 0
IsClimbedFor index x q d (Ok t) new = IsGood x.quantum q × CanServe d index x q
    × ServesWith index x q t d new × IsHeld (t ∷ []) new × SameSetup d new
IsClimbedFor index x q d (Err (climbing.Refused carving.BadRequest)) new =
    (¬ IsGood x.quantum q) × (new ≡ d)
IsClimbedFor index x q d (Err (climbing.Refused carving.NoFit)) new = IsGood x.quantum q
    × ServesNone index x q d new × (new ≡ d)
IsClimbedFor index x q d (Err (climbing.Refused carving.NoMemory)) new =
    IsGood x.quantum q × CanServe d index x q
    × FallsBack index x q d new × IsHeld [] new × SameSetup d new
IsClimbedFor index x q d (Err (climbing.Stuck t)) new = ⊥
IsClimbedFor index x q d (Err (climbing.Stopped o)) new = ⊥

abbrev pub AllocClimbs : Type 0
AllocClimbs = (d : Picture) (index : ℕ) (x : TreeArena) (q : Request) (s : LocalState)
    (a : ClimbEnd) → IsHeld [] d → slice_get d.tree index ≡ Some x → IsPlain q → ¬ IsCachedIn x q
    → RunsTo d.tree (alloc_plan (chain_in d.tree index) q.size) (parts_in d) s a
    → IsClimbedFor index x q d a (with_parts s d)

-- and of one that a cache serves: where nothing fits, the CPU may still have changed over
abbrev pub IsFromCaches : ℕ → TreeArena → Request → Picture → ClimbEnd → Picture → Type 0
IsFromCaches index x q d (Ok t) new = IsGood x.quantum q × CanServe d index x q
    × ServesWith index x q t d new × IsHeld (t ∷ []) new × SameSetup d new
IsFromCaches index x q d (Err (climbing.Refused carving.BadRequest)) new =
    (¬ IsGood x.quantum q) × (new ≡ d)
IsFromCaches index x q d (Err (climbing.Refused carving.NoFit)) new = IsGood x.quantum q
    × ServesNone index x q d new × IsHeld [] new × SameSetup d new
IsFromCaches index x q d (Err (climbing.Refused carving.NoMemory)) new =
    IsGood x.quantum q × CanServe d index x q
    × FallsBack index x q d new × IsHeld [] new × SameSetup d new
IsFromCaches index x q d (Err (climbing.Stuck t)) new = ⊥
IsFromCaches index x q d (Err (climbing.Stopped o)) new = ⊥

abbrev pub AllocFromCaches : Type 0
AllocFromCaches = (d : Picture) (index : ℕ) (x : TreeArena) (q : Request) (s : LocalState)
    (a : ClimbEnd) → IsHeld [] d → slice_get d.tree index ≡ Some x → IsPlain q → IsCachedIn x q
    → RunsTo d.tree (alloc_plan (chain_in d.tree index) q.size) (parts_in d) s a
    → IsFromCaches index x q d a (with_parts s d)

-- the parts that a CPU reaches, selected or not
abbrev pub parts_of_cpu : Picture → NumberedCpu → LocalState
parts_of_cpu d c = record { spaces = d.spaces; cpu = c.caches }

abbrev pub OfflineIsLocal : Type 0
OfflineIsLocal = (d : Picture) (n : ℕ) (c : NumberedCpu) → IsHeld [] d
    → find (is_cpu n) d.cpus ≡ Some c
    → IsLocalOf d.tree (parts_of_cpu d c)
    × ((others : List Tag) × IsAccountedWith (parts_of_cpu d c) None others)

-- the CPU begins with new caches, over these arenas
abbrev pub after_offline : ℕ → List SpaceState → Picture → Picture
after_offline n spaces d =
    record d { spaces = spaces; cpus = map (after_renewal n d.spaces) d.cpus }

-- a CPU that is drained, and then begins anew, went offline
abbrev pub DrainGoesOffline : Type 0
DrainGoesOffline = (d : Picture) (n turns : ℕ) (c : NumberedCpu) (s : LocalState) → IsHeld [] d
    → find (is_cpu n) d.cpus ≡ Some c
    → RunsTo d.tree (drain_plan turns d.tree) (parts_of_cpu d c) s (Ok tt)
    → GoesOffline n d (after_offline n s.spaces d) × IsHeld [] (after_offline n s.spaces d)
    × SameSetup d (after_offline n s.spaces d)

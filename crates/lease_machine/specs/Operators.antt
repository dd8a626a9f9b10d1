-- What an operator's line is answered.
use Rattle.std.specs.Prelude.{◌≡◌, ◌≢◌, ◌⊎◌, ℕ, ◌+◌, ◌-◌, ◌<◌, ◌==◌, ◌&&◌, not, Bool, false}
use Rattle.std.specs.Prelude.{List, [], ◌∷◌, ◌++◌, All, Any, map, filter, take, drop, set, length}
use Rattle.std.specs.Prelude.{nat_lt, nat_le, if◌then◌else◌, sum_by, count_by, slice_get}
use Rattle.std.specs.Prelude.{Some, None, Result}
use Rattle.std.specs.List.{find, flat_map, list_any}
use Rattle.deed_core.specs.Extent.{Extent, end_of}
use Rattle.deed_core.specs.Tag.{Tag}
use Rattle.slab_layer.specs.Slab.{SlabState, IsComplete, idle_count}
use Rattle.slab_layer.specs.Cache.{SlabCacheState, span_tag}
use Rattle.magazine_layer.specs.Depots.{DepotState, CanReap, after_tick, after_resize, all_rounds}
use Rattle.arena_tree.specs.declared.part_faults.GrowFault.{GrowFault}
use Rattle.arena_tree.specs.declared.trees.TreeArena.{TreeArena}
use Rattle.arena_tree.specs.Trees.{index_in}
use Rattle.stock.specs.Spaces.{SpaceState, QuantumCacheState, with_caches}
use Rattle.stock.specs.Spaces.{with_depot}
use Rattle.stock.specs.Growing.{GrowsBy}
use Rattle.stock.specs.Sums.{Sums}
use Rattle.stock_audit.specs.Audits.{sums_of_arena}
use Rattle.lease_book.specs.Reports.{report_of}
use Rattle.lease_book.specs.declared.reports.ClientReport.{ClientReport}
use Rattle.lease_proto.specs.declared.faults.ErrorWord.{ErrorWord}
use Rattle.lease_proto.specs.declared.faults.ErrorWord.TheVariants.{Memory, NoArena, Size}
use Rattle.lease_proto.specs.declared.operators.GrowLine.{GrowLine}
use Rattle.lease_proto.specs.declared.operators.OperatorLine.{OperatorLine}
use Rattle.lease_proto.specs.declared.operators.OperatorLine.TheVariants as operator
use Rattle.lease_proto.specs.declared.reports.AuditLine.{AuditLine}
use Rattle.lease_proto.specs.declared.reports.ClientLine.{ClientLine}
use Rattle.lease_proto.specs.Faults.{error_text}
use Rattle.lease_proto.specs.Operators.{rounds_named}
use Rattle.lease_call.specs.Growing.{TellsGrowth, grow_outcome}
use Rattle.lease_proto.specs.Reports.{audit_text, client_text, reaped_text, ok_text}
use Rattle.lease_proto.specs.Reports.{outcome_text}
use Rattle.lease_machine.specs.Picture.{NumberedCpu, Picture, is_cpu, fresh_cpu, held_outside}
use Rattle.lease_machine.specs.Moves.{ArenasStay, ReturnAll, arenas_with, outline_of}
use Rattle.lease_machine.specs.Moves.{outlines_of}

-- the CPUs with that one, which is made if it is new
abbrev pub with_cpu : ℕ → Picture → List NumberedCpu
with_cpu n d = if list_any (is_cpu n) d.cpus then d.cpus else d.cpus ++ fresh_cpu n d.spaces ∷ []

-- that CPU begins anew
abbrev pub after_renewal : ℕ → List SpaceState → NumberedCpu → NumberedCpu
after_renewal n spaces c = if is_cpu n c then fresh_cpu n spaces else c

abbrev pub depots_of : SpaceState → List DepotState
depots_of s = map (λ c. c.depot) s.caches

-- The rounds of the CPU are at home in their slabs, and it begins anew. Arenas and depots, which
-- slabs there are, and all other CPUs are as they were.
pub record GoesOffline (n : ℕ) (old new : Picture) : Type 0 where
  pub cpus : new.cpus ≡ map (after_renewal n old.spaces) old.cpus
  pub arenas : ArenasStay old.spaces new.spaces
  pub depots : map depots_of new.spaces ≡ map depots_of old.spaces
  pub rest : new ≡ record old { spaces = new.spaces; cpus = new.cpus }

-- the cache with its depot changed so, and the arena with all its depots
abbrev pub with_depot_by : (DepotState → DepotState) → QuantumCacheState → QuantumCacheState
with_depot_by f c = with_depot (f c.depot) c

abbrev pub with_depots_by : (DepotState → DepotState) → SpaceState → SpaceState
with_depots_by f s = with_caches (map (with_depot_by f) s.caches) s

-- the depot keeps magazines of this size from here on, if it is greater than its own
abbrev pub after_rise : ℕ → DepotState → DepotState
after_rise m d = if nat_lt d.size m then after_resize m d else d

-- a depot of the arena has smaller magazines
abbrev pub HasSmaller : ℕ → SpaceState → Type 0
HasSmaller m s = Any (λ c. c.depot.size < m) s.caches

-- the depots of the arena of this name rise, or why they don't
abbrev pub Resizes : List ℕ → ℕ → Picture → List ℕ → Picture → Type 0
Resizes name m old text new =
    ((index_in name old.tree ≡ None) × (text ≡ error_text NoArena) × (new ≡ old))
    ⊎ ((index : ℕ) × (s : SpaceState) × (index_in name old.tree ≡ Some index)
    × (slice_get old.spaces index ≡ Some s) × (¬ HasSmaller m s)
    × (text ≡ error_text Size) × (new ≡ old))
    ⊎ ((index : ℕ) × (s : SpaceState) × (index_in name old.tree ≡ Some index)
    × (slice_get old.spaces index ≡ Some s) × HasSmaller m s × (text ≡ ok_text)
    × (new ≡ record old { spaces = set old.spaces index (with_depots_by (after_rise m) s) }))

-- the root at the index grew by the range, or the word of why it didn't, and nothing else changed
abbrev pub GrowsAt : Picture → ℕ → Extent → Result (Unit {0}) ErrorWord → Picture → Type 0
GrowsAt old index range told new = (grown : Result (Unit {0}) GrowFault)
    × (told ≡ grow_outcome grown) × GrowsBy index range grown old.spaces new.spaces
    × (new ≡ record old { spaces = new.spaces })

-- no root has the name, or the numbers are no range; or the root grew by the range, or why it
-- didn't
abbrev pub Grows : GrowLine → Picture → List ℕ → Picture → Type 0
Grows g old text new = (told : Result (Unit {0}) ErrorWord) × (text ≡ outcome_text told)
    × TellsGrowth GrowsAt old.tree g old told new

-- where the units of the arena are
abbrev pub sums_in : Picture → SpaceState → Sums
sums_in d s = sums_of_arena d.spaces (held_outside d) s

-- how many are in slabs and magazines
abbrev pub cached_units : Picture → ℕ
cached_units d = sum_by (λ s. (sums_in d s).slab + (sums_in d s).magazine) d.spaces

-- nothing of the cache may be reaped: no round of its depot, and no slab, as each has a chunk out
pub record IsReapedOut (c : QuantumCacheState) : Type 0 where
  pub rounds : ¬ CanReap c.depot
  pub slabs : All (λ s. ¬ IsComplete s) c.slab.slabs

-- only parts changed
abbrev pub PartsAlone : Picture → Picture → Type 0
PartsAlone old new = new ≡ record old { spaces = new.spaces }

-- what reaping leaves of a depot: the magazines inside the working sets
abbrev pub after_reap : DepotState → DepotState
after_reap d = record d {
  full = drop d.full_reapable d.full;
  full_reapable = 0;
  empty = d.empty - d.empty_reapable;
  empty_reapable = 0;
  old_full = [];
  draining = [];
}

-- what reaping leaves of an arena's depots
abbrev pub depots_after_reap : SpaceState → List DepotState
depots_after_reap s = map after_reap (depots_of s)

-- the rounds that a depot may let go: of the magazine being drained, of old sizes, and of the full
-- magazines outside the working set
abbrev pub rounds_to_go : DepotState → List Tag
rounds_to_go d =
    d.draining ++ (all_rounds d.old_full ++ all_rounds (take d.full_reapable d.full))

-- the chunk lies in the slab
abbrev pub is_in_slab : SlabState → Tag → Bool
is_in_slab s t = nat_le s.span.range.base t.holding.range.base
    && nat_lt t.holding.range.base (end_of s.span.range)

-- each chunk of the slab is at home, or one of these rounds, which come home
abbrev pub comes_whole : List Tag → SlabState → Bool
comes_whole rounds s = (idle_count s + count_by (is_in_slab s) rounds) == length s.home

-- so it is with the rounds that the cache's depot may let go
abbrev pub goes : QuantumCacheState → SlabState → Bool
goes c s = comes_whole (rounds_to_go c.depot) s

-- the spans of the slabs that go: of a cache by their bases
abbrev pub spans_of_cache : QuantumCacheState → List Tag
spans_of_cache c = map (span_tag c.slab.arena) (filter (goes c) c.slab.slabs)

-- of an arena, the caches from the least size
abbrev pub spans_of_arena : SpaceState → List Tag
spans_of_arena s = flat_map spans_of_cache s.caches

-- and of all arenas, the last first
abbrev pub spans_to_go : List SpaceState → List Tag
spans_to_go [] = []
spans_to_go (s ∷ spaces) = spans_to_go spaces ++ spans_of_arena s

-- the slabs that stay, without which of their chunks are at home
abbrev pub slabs_after_reap : QuantumCacheState → SlabCacheState
slabs_after_reap c =
    record c.slab { slabs = map outline_of (filter (λ s. not (goes c s)) c.slab.slabs) }

abbrev pub outlines_after_reap : SpaceState → List SlabCacheState
outlines_after_reap s = map slabs_after_reap s.caches

-- So many units, of whole slabs, went from the caches to their arenas, and nothing is left to reap.
-- The rounds that depots may let go came home, and the slabs that were whole then went: their spans
-- were freed one after another.
pub record ReapsAll (units : ℕ) (old new : Picture) : Type 0 where
  pub parts : PartsAlone old new
  pub units_are : cached_units old ≡ cached_units new + units
  pub depots : map depots_of new.spaces ≡ map depots_after_reap old.spaces
  pub slabs : map outlines_of new.spaces ≡ map outlines_after_reap old.spaces
  pub returns : ReturnAll (spans_to_go old.spaces) (arenas_with old.spaces new.spaces) new.spaces
  pub left : All (λ s. All IsReapedOut s.caches) new.spaces

abbrev pub audit_line : List ℕ → Sums → AuditLine
audit_line name x = record {
  name = name;
  free = x.free;
  slab = x.slab;
  magazine = x.magazine;
  exported = x.exported;
  leased = x.leased;
  hand = x.hand;
}

-- a line for each arena, in order of setup
abbrev pub audit_texts_of : Picture → List TreeArena → List SpaceState → List ℕ
audit_texts_of d [] spaces = []
audit_texts_of d (x ∷ tree) [] = []
audit_texts_of d (x ∷ tree) (s ∷ spaces) =
    audit_text (audit_line x.name (sums_in d s)) ++ audit_texts_of d tree spaces

abbrev pub client_line : ClientReport → ClientLine
client_line r = record {
  client = r.client;
  incarnation = r.incarnation;
  last = r.last;
  leases = r.leases;
}

-- a line for a client
abbrev pub client_text_of : ClientReport → List ℕ
client_text_of r = client_text (client_line r)

-- the answer to an operator's line
abbrev pub Performs : OperatorLine → Picture → List ℕ → Picture → Type 0
Performs (operator.Cpu n) old text new =
    (text ≡ ok_text) × (new ≡ record old { cpus = with_cpu n old; selected = n })
Performs (operator.Offline n) old text new = (text ≡ ok_text) × GoesOffline n old new
Performs operator.Tick old text new =
    (text ≡ ok_text) × (new ≡ record old { spaces = map (with_depots_by after_tick) old.spaces })
Performs (operator.Resize r) old text new = Resizes r.arena (rounds_named r.size) old text new
Performs (operator.Grow g) old text new = Grows g old text new
Performs operator.Reap old text new =
    (units : ℕ) × (text ≡ reaped_text (record { units = units })) × ReapsAll units old new
Performs operator.Audit old text new = (text ≡ audit_texts_of old old.tree old.spaces) × (new ≡ old)
Performs operator.Clients old text new =
    (text ≡ flat_map client_text_of (map report_of old.book.accounts)) × (new ≡ old)

-- What is left out of memory: a line that moves nothing but by what it makes first moves nothing.
-- No CPU asks for memory that is there when it is selected, nor one that never was when it goes
-- offline. A reaping takes none, and is whole: only the line that tells of it finds no room.
abbrev pub LeavesOff : OperatorLine → Picture → Picture → Type 0
LeavesOff (operator.Cpu n) old new = (list_any (is_cpu n) old.cpus ≡ false) × (new ≡ old)
LeavesOff (operator.Offline n) old new = (find (is_cpu n) old.cpus ≢ None) × (new ≡ old)
LeavesOff operator.Tick old new = ⊥
LeavesOff (operator.Resize r) old new = ⊥
LeavesOff (operator.Grow g) old new = ⊥
LeavesOff operator.Reap old new = (units : ℕ) × ReapsAll units old new
LeavesOff operator.Audit old new = new ≡ old
LeavesOff operator.Clients old new = new ≡ old

-- it changes no lease
abbrev pub OperatorStep : OperatorLine → Picture → List ℕ → Picture → Type 0
OperatorStep o old text new =
    Performs o old text new ⊎ ((text ≡ error_text Memory) × LeavesOff o old new)

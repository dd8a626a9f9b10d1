-- What follows for a stock and the segments that are out of it.
use Rattle.std.specs.Prelude.{◌≡◌, ◌≢◌, ℕ, ◌+◌, ◌<◌, ◌≤◌, List, [], ◌++◌, All, AllPairs, filter}
use Rattle.std.specs.Prelude.{set}
use Rattle.std.specs.Prelude.{slice_get, Some, None, sum_by}
use Rattle.deed_core.specs.Holding.{Holding}
use Rattle.deed_core.specs.Tag.{Tag}
use Rattle.deed_core.specs.Extent.{Covers}
use Rattle.deed_core.specs.Request.{Fits}
use Rattle.deed_core.specs.declared.requests.Request.{Request}
use Rattle.deed_core.specs.Covering.{covering_held, units_in, units_held}
use Rattle.deed_core.specs.Selections.{came_direct}
use Rattle.deed_core.specs.Weights.{weight_where, of_arena}
use Rattle.tag_arena.specs.ArenaState.{ArenaState, spans_of, ranges_of}
use Rattle.stock.specs.Spaces.{SpaceState, QuantumCacheState, plans_of, with_arena, with_caches}
use Rattle.stock.specs.OwnCaches.{OwnCacheState, own_rounds, all_own_rounds}
use Rattle.stock.specs.Accounts.{IsAccounted}
use Rattle.stock.specs.Sums.{held_of, homes_of, total}
use Rattle.stock.specs.Laws.{HasTop, ApartUpChain}
use Rattle.stock_audit.specs.Outside.{Outside, nothing_out, out_of, segments_out}
use Rattle.stock_audit.specs.Audits.{sums_of_arena, units_of_arena_in}
use Rattle.stock_audit.specs.Accounted.{IsAccountedFor}
use Rattle.stock_audit.specs.Keeping.{IsStep, HandsMove, OnCpu, PopMove, PushMove, ChangeMove}
use Rattle.stock_audit.specs.Keeping.{LeaseMove, ReleaseMove, CpusMove, IsGiven}
use Rattle.stock_audit.specs.Keeping.{StaysOffChain}
use Rattle.stock_audit.specs.Chains.{IsUpFrom, IsFreeFor, IsReachable, FitsIn, AreTops, is_under}
use Rattle.stock_audit.specs.Chains.{sum_but_exported, unit_of_arena, spans_of_children}
use Rattle.stock_audit.specs.Chains.{spans_of_slabs}

-- the sums of each arena add up to the units of its spans
abbrev pub AuditAddsUp : Type 0
AuditAddsUp = (spaces : List SpaceState) (out : Outside) → IsAccountedFor spaces out
    → (k : ℕ) (s : SpaceState) → slice_get spaces k ≡ Some s
    → total (sums_of_arena spaces out s) ≡ units_held (spans_of s.arena)

-- the same of one unit: one of a span is in one home, and another in none
abbrev pub UnitAddsUp : Type 0
UnitAddsUp = (spaces : List SpaceState) (out : Outside) → IsAccountedFor spaces out
    → (k : ℕ) (s : SpaceState) → slice_get spaces k ≡ Some s → (u : ℕ)
    → (total (unit_of_arena u spaces out s) ≡ covering_held u (spans_of s.arena))
    × (covering_held u (spans_of s.arena) ≤ 1)

-- the units of an arena's segments, by their weights
abbrev pub UnitsWeigh : Type 0
UnitsWeigh = (arena : ℕ) (segments : List Tag) → units_of_arena_in arena segments
    ≡ sum_by (of_arena arena (λ t. units_in t.holding)) segments

-- a stock whose accounts balance with nothing out is accounted for with nothing out
abbrev pub FreshIsAccounted : Type 0
FreshIsAccounted = (spaces : List SpaceState) → IsAccounted spaces []
    → IsAccountedFor spaces nothing_out

-- what is accounted for balances
abbrev pub AccountedBalances : Type 0
AccountedBalances = (spaces : List SpaceState) (out : Outside) → IsAccountedFor spaces out
    → IsAccounted spaces (segments_out out)

-- a call of the stock keeps it, where hands give and take
abbrev pub HandStepsKeep : Type 0
HandStepsKeep = (old new : List SpaceState) (given answered : List Tag) (before after : Outside)
    → IsAccountedFor old before → IsStep old given new answered
    → HandsMove before given answered after → IsAccountedFor new after

-- or a CPU's cache swaps magazines
abbrev pub SwapsKeep : Type 0
SwapsKeep = (old new : List SpaceState) (i : ℕ) (o p : OwnCacheState) (before after : Outside)
    → IsAccountedFor old before → IsStep old (own_rounds o) new (own_rounds p)
    → OnCpu i o p before after → after.hands ≡ before.hands → IsAccountedFor new after

-- what is private to a CPU keeps it
abbrev pub PopsKeep : Type 0
PopsKeep = (spaces : List SpaceState) (i : ℕ) (o p : OwnCacheState) (t : Tag)
    (before after : Outside) → IsAccountedFor spaces before → PopMove i o p t before after
    → IsAccountedFor spaces after

abbrev pub PushesKeep : Type 0
PushesKeep = (spaces : List SpaceState) (i : ℕ) (o p : OwnCacheState) (t : Tag)
    (before after : Outside) → IsAccountedFor spaces before → PushMove i o p t before after
    → IsAccountedFor spaces after

abbrev pub ChangesKeep : Type 0
ChangesKeep = (spaces : List SpaceState) (i : ℕ) (o p : OwnCacheState) (before after : Outside)
    → IsAccountedFor spaces before → ChangeMove i o p before after → IsAccountedFor spaces after

-- and what a book does with hands
abbrev pub LeasesKeep : Type 0
LeasesKeep = (spaces : List SpaceState) (t : Tag) (before after : Outside)
    → IsAccountedFor spaces before → LeaseMove t before after → IsAccountedFor spaces after

abbrev pub ReleasesKeep : Type 0
ReleasesKeep = (spaces : List SpaceState) (t : Tag) (before after : Outside)
    → IsAccountedFor spaces before → ReleaseMove t before after → IsAccountedFor spaces after

-- CPUs' caches come and go, with the same rounds in them all
abbrev pub CpusKeep : Type 0
CpusKeep = (spaces : List SpaceState) (before after : Outside) → IsAccountedFor spaces before
    → CpusMove spaces before after → IsAccountedFor spaces after

-- a unit of an arena's spans stands as exported in its source, and nowhere else there
abbrev pub ChildIsExported : Type 0
ChildIsExported = (spaces : List SpaceState) (out : Outside) → IsAccountedFor spaces out
    → (k p : ℕ) (s from : SpaceState) → slice_get spaces k ≡ Some s → s.source ≡ Some p
    → slice_get spaces p ≡ Some from → (u : ℕ) → 0 < covering_held u (spans_of s.arena)
    → ((unit_of_arena u spaces out from).exported ≡ 1)
    × (total (unit_of_arena u spaces out from) ≡ 1)

-- what is exported are the spans of the children, however ranges are weighed
abbrev pub ExportedIsChildren : Type 0
ExportedIsChildren = (spaces : List SpaceState) (out : Outside) → IsAccountedFor spaces out
    → (k : ℕ) (s : SpaceState) → slice_get spaces k ≡ Some s → (f : Holding → ℕ)
    → sum_by f (homes_of spaces (out_of out) s).exported ≡ sum_by f (spans_of_children k spaces)

-- what is allocated are the Direct segments that are out, the spans of slabs, and those of children
abbrev pub AllocatedIsOut : Type 0
AllocatedIsOut = (spaces : List SpaceState) (out : Outside) → IsAccountedFor spaces out
    → (k : ℕ) (s : SpaceState) → slice_get spaces k ≡ Some s → (f : Holding → ℕ)
    → sum_by f (ranges_of s.arena.allocated)
    ≡ sum_by f (held_of k (filter came_direct (segments_out out)))
    + (sum_by f (spans_of_slabs s) + sum_by f (spans_of_children k spaces))

-- the units of an arena's spans are units of the spans of each arena up its chain
abbrev pub SpansAreOfSource : Type 0
SpansAreOfSource = (spaces : List SpaceState) (out : Outside) → IsAccountedFor spaces out
    → (k a : ℕ) (s from : SpaceState) → IsUpFrom spaces k a → slice_get spaces k ≡ Some s
    → slice_get spaces a ≡ Some from → (u : ℕ)
    → covering_held u (spans_of s.arena) ≤ covering_held u (spans_of from.arena)

-- no two segments that are out overlap where their arenas have one top
abbrev pub OutNeverOverlaps : Type 0
OutNeverOverlaps = (spaces : List SpaceState) (out : Outside) → IsAccountedFor spaces out
    → AllPairs (ApartUpChain spaces) (segments_out out)

-- over a top arena and all that import from it, each unit of the spans at the top is in one home,
-- and any other in none
abbrev pub UnderTopUnitAddsUp : Type 0
UnderTopUnitAddsUp = (spaces : List SpaceState) (out : Outside) → IsAccountedFor spaces out
    → (top : ℕ → ℕ) → AreTops spaces top → (r : ℕ) (root : SpaceState)
    → slice_get spaces r ≡ Some root → root.source ≡ None → (u : ℕ)
    → (sum_by (weight_where (is_under top r)
    (λ s. sum_but_exported (unit_of_arena u spaces out s))) spaces
    ≡ covering_held u (spans_of root.arena)) × (covering_held u (spans_of root.arena) ≤ 1)

-- so the sums of all of them, but what they exported, add up to the units of those spans
abbrev pub UnderTopAddsUp : Type 0
UnderTopAddsUp = (spaces : List SpaceState) (out : Outside) → IsAccountedFor spaces out
    → (top : ℕ → ℕ) → AreTops spaces top → (r : ℕ) (root : SpaceState)
    → slice_get spaces r ≡ Some root → root.source ≡ None
    → sum_by (weight_where (is_under top r)
    (λ s. sum_but_exported (sums_of_arena spaces out s))) spaces
    ≡ units_held (spans_of root.arena)

-- there are such tops
abbrev pub TopsStand : Type 0
TopsStand = (spaces : List SpaceState) (out : Outside) → IsAccountedFor spaces out
    → (top : ℕ → ℕ) × AreTops spaces top

-- a unit that an arena may carve or import is in no segment that is out of an arena with its top
abbrev pub FreeIsNotOut : Type 0
FreeIsNotOut = (spaces : List SpaceState) (out : Outside) → IsAccountedFor spaces out
    → (k top u : ℕ) → IsFreeFor spaces u k → HasTop spaces k top
    → All (λ t. HasTop spaces t.arena top → ¬ Covers t.holding.range u) (segments_out out)

-- nor is one that it may serve a request with, of its caches too, in a hand or leased
abbrev pub ReachableIsNotHeld : Type 0
ReachableIsNotHeld = (spaces : List SpaceState) (out : Outside) → IsAccountedFor spaces out
    → (k top u : ℕ) (s : SpaceState) → slice_get spaces k ≡ Some s
    → IsReachable spaces out k s u → HasTop spaces k top
    → All (λ t. HasTop spaces t.arena top → ¬ Covers t.holding.range u) (out.hands ++ out.leases)

-- what is free in an arena up the chain is free for the arena: it is outside all spans below
abbrev pub FreeAboveIsFree : Type 0
FreeAboveIsFree = (spaces : List SpaceState) (out : Outside) → IsAccountedFor spaces out
    → (k a u : ℕ) (s : SpaceState) → IsUpFrom spaces k a → slice_get spaces a ≡ Some s
    → 0 < covering_held u s.arena.free → IsFreeFor spaces u k

-- what is given was reachable, each unit of it: free in the arena, in its caches or its rounds, or
-- outside its spans and free in an arena up its chain
abbrev pub GivenWasReachable : Type 0
GivenWasReachable = (old new : List SpaceState) (before after : Outside)
    → IsAccountedFor old before → IsAccountedFor new after
    → (k : ℕ) (t : Tag) → IsGiven k t old new before after
    → (s : SpaceState) → slice_get old k ≡ Some s
    → (u : ℕ) → Covers t.holding.range u → IsReachable old before k s u

-- so what is given and fits the request could have been served there before
abbrev pub GivenFittedIn : Type 0
GivenFittedIn = (old new : List SpaceState) (before after : Outside)
    → IsAccountedFor old before → IsAccountedFor new after
    → (k : ℕ) (t : Tag) → IsGiven k t old new before after
    → (s : SpaceState) → slice_get old k ≡ Some s → (q : Request)
    → Fits s.arena.quantum q t.holding.range.base t.holding.range.len
    → FitsIn old before k s q t.holding.range

-- no step is such, and such steps one after another are
abbrev pub NoStepOffChain : Type 0
NoStepOffChain = (k : ℕ) (spaces : List SpaceState) (before after : Outside)
    → after.leases ≡ before.leases → after.cpus ≡ before.cpus
    → StaysOffChain k spaces spaces before after

abbrev pub OffChainThen : Type 0
OffChainThen = (k : ℕ) (old mid new : List SpaceState) (before between after : Outside)
    → StaysOffChain k old mid before between → StaysOffChain k mid new between after
    → StaysOffChain k old new before after

-- an arena of the chain changed, and keeps its owned spans
abbrev pub ArenaStepOffChain : Type 0
ArenaStepOffChain = (k b : ℕ) (old new : List SpaceState) (before after : Outside)
    (s : SpaceState) (a : ArenaState) → IsUpFrom old k b → slice_get old b ≡ Some s
    → new ≡ set old b (with_arena a s) → plans_of new ≡ plans_of old
    → a.owned ≡ s.arena.owned → after.leases ≡ before.leases → after.cpus ≡ before.cpus
    → StaysOffChain k old new before after

-- the caches of the first one did, or the CPUs' rounds of it
abbrev pub CacheStepOffChain : Type 0
CacheStepOffChain = (k : ℕ) (old new : List SpaceState) (before after : Outside)
    (s : SpaceState) (cs : List QuantumCacheState) → slice_get old k ≡ Some s
    → new ≡ set old k (with_caches cs s) → plans_of new ≡ plans_of old
    → after.leases ≡ before.leases
    → ((b : ℕ) → b ≢ k → (f : Tag → ℕ) → sum_by (of_arena b f) (all_own_rounds after.cpus)
    ≡ sum_by (of_arena b f) (all_own_rounds before.cpus))
    → StaysOffChain k old new before after

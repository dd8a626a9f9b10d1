-- The events, and what may become of a world at each.
use Rattle.std.specs.Prelude.{◌≡◌, ◌≢◌, ◌⊎◌, ℕ, ◌<◌, ◌≤◌, true, false, All, List, [], ◌∷◌, length}
use Rattle.std.specs.Prelude.{slice_get, Option, Some, None, Ok}
use Rattle.deed_core.specs.Tag.{Tag}
use Rattle.deed_core.specs.Request.{Fits, IsGood, plain_of}
use Rattle.deed_core.specs.declared.requests.Request.{Request}
use Rattle.deed_core.specs.declared.segments.Route.TheVariants.{Direct}
use Rattle.tag_arena.specs.ArenaState.{IsChosen}
use Rattle.tag_arena.specs.Calls.{after_add}
use Rattle.tag_arena.specs.Outcomes.{WasCarved, WasImported}
use Rattle.arena_tree.specs.declared.part_faults.GrowFault.TheVariants as growing
use Rattle.slab_layer.specs.Slab.{IsAllOut, IsComplete}
use Rattle.slab_layer.specs.Calls.{TakeOf, AddOf, ReapOf}
use Rattle.magazine_layer.specs.Magazines.{CpuCacheState, IsSize, BothEmpty, BothFull}
use Rattle.magazine_layer.specs.Magazines.{empty_magazine, after_change}
use Rattle.magazine_layer.specs.Depots.{DepotState, CanReap, after_tick}
use Rattle.magazine_layer.specs.Calls.{DepotReapOf, ResizeOf, SwapFullOf, SwapEmptyOf, PutFullOf}
use Rattle.stock.specs.Spaces.{SpaceState, QuantumCacheState, IsCacheAt, HasCache}
use Rattle.stock.specs.OwnCaches.{OwnCacheState}
use Rattle.stock.specs.Steps.{HasQuantum, OnArena, OnSlab, OnDepot, FreeIn, PutIn, CanImport}
use Rattle.stock.specs.Steps.{IsTaggedIn, IsOutOf}
use Rattle.stock.specs.Growing.{CanGrow, OnRoot, RefusesToGrow, next_root}
use Rattle.lease_terms.specs.Requests.{RequestId}
use Rattle.lease_terms.specs.declared.refusals.Refusal.{Refusal}
use Rattle.lease_terms.specs.declared.refusals.Refusal.TheVariants as refusals
use Rattle.lease_proto.specs.declared.lines.LeaseLine.{LeaseLine}
use Rattle.lease_proto.specs.declared.lines.ReleaseLine.{ReleaseLine}
use Rattle.lease_proto.specs.declared.lines.Line.{Line}
use Rattle.lease_proto.specs.declared.lines.Line.TheVariants as lines
use Rattle.lease_proto.specs.declared.lines.Op.{Op}
use Rattle.lease_proto.specs.declared.lines.Op.TheVariants as ops
use Rattle.lease_proto.specs.Requests.{demand_of}
use Rattle.lease_book.specs.Account.{Lease}
use Rattle.lease_book.specs.Answers.{IsNew}
use Rattle.lease_book.specs.BookState.{account_in}
use Rattle.lease_client.specs.ClientState.{ClientState}
use Rattle.lease_client.specs.Calls.{IsRestarted, IsSent, may_restart, refusal}
use Rattle.lease_client.specs.declared.faults.SendFault.TheVariants as sending
use Rattle.world_core.specs.declared.events.WorldEvent.{WorldEvent}
use Rattle.world_core.specs.declared.events.WorldEvent.TheVariants as events
use Rattle.world_core.specs.declared.events.Outcome.{Outcome}
use Rattle.world_core.specs.declared.events.EventFault.{EventFault}
use Rattle.world_core.specs.declared.events.EventFault.TheVariants as faults
use Rattle.world_core.specs.declared.events.Outcome.TheVariants.{Done, NotEnabled, NoMemory}
use Rattle.world_core.specs.declared.events.Outcome.TheVariants.{Refused}
use Rattle.world_core.specs.WorldState.{WorldState, IsAmong}
use Rattle.world_core.specs.Moves.{HasTask, IsNamed, ClientSays, ClientHears}
use Rattle.world_core.specs.Moves.{HelloTaken, HelloRefused, AnsweredAtOnce, TaskTaken, TaskGranted}
use Rattle.world_core.specs.Moves.{TaskRefused, TaskReleased, TaskAnswered, TaskGivenUp, HandMoves}
use Rattle.world_core.specs.Moves.{PartMoves, LeaseSwept, IsOwnFor, TakesHand, RoundPopped}
use Rattle.world_core.specs.Moves.{RoundPushed, HasRoundAt, HandAdopted, RoundAdopted, OwnMoves}
use Rattle.world_core.specs.Moves.{HasAllLeases, HasNoSuchLease, sent_again}

-- what a CPU would lease: its hand's segment is of the arena that the lease names, and fits it
pub record CanGrant (w : WorldState) (cpu : ℕ) (id : RequestId) (lease : LeaseLine) (segment : Tag)
    (quantum : ℕ) : Type 0 where
  pub serves : HasTask w cpu id (ops.Lease lease)
  pub holds : slice_get w.hands cpu ≡ Some (Some segment)
  pub home : IsNamed w segment.arena lease.arena
  pub grid : HasQuantum w.stock segment.arena quantum
  pub fits : Fits quantum (demand_of lease)
      segment.holding.range.base segment.holding.range.len

-- what a CPU with an empty hand would release: the arena has a name here
pub record CanRelease (w : WorldState) (cpu : ℕ) (id : RequestId) (release : ReleaseLine)
    (arena : ℕ) : Type 0 where
  pub serves : HasTask w cpu id (ops.Release release)
  pub empty : slice_get w.hands cpu ≡ Some None
  pub home : IsNamed w arena release.arena

-- a CPU may decline a request for this; the others are the book's to find
abbrev pub MayDecline : Refusal → Type 0
MayDecline refusals.NotYours = ⊥
MayDecline refusals.Leases = ⊥
MayDecline why = Unit {0}

-- a CPU has nothing to do
abbrev pub IsIdle : WorldState → ℕ → Type 0
IsIdle w cpu = (slice_get w.hands cpu ≡ Some None) × (slice_get w.tasks cpu ≡ Some None)

-- a lease of an incarnation of the client that has passed stands
abbrev pub HasOldLease : WorldState → ℕ → Type 0
HasOldLease w c = (l : Lease) × IsAmong l (account_in c w.book).leases
    × (l.incarnation < (account_in c w.book).incarnation)

-- the CPU's hand has this, or nothing
abbrev pub HasInHand : WorldState → ℕ → Option Tag → Type 0
HasInHand w cpu held = slice_get w.hands cpu ≡ Some held

-- a round of the cache's depot may be reaped
abbrev pub HasRoundToReap : WorldState → ℕ → ℕ → Type 0
HasRoundToReap w arena cache = (c : QuantumCacheState) × IsCacheAt w.stock arena cache c
    × CanReap c.depot

-- what an arena would carve for the request: it is good, and the policy chooses a base
pub record CanCarve (s : SpaceState) (q : Request) : Type 0 where
  pub good : IsGood s.arena.quantum q
  pub base : ℕ
  pub chosen : IsChosen s.arena q (Some base)

-- the hand has a span of the arena that came direct, and the cache stands there
pub record HasSpanFor (w : WorldState) (cpu arena cache : ℕ) (span : Tag) (c : QuantumCacheState)
    : Type 0 where
  pub holds : HasInHand w cpu (Some span)
  pub home : span.arena ≡ arena
  pub route : span.route ≡ Direct
  pub at : IsCacheAt w.stock arena cache c

-- the CPU's own cache for this quantum cache is so
pub record HasOwn (w : WorldState) (cpu arena cache : ℕ) (Is : CpuCacheState → Type 0)
    : Type 0 where
  pub index : ℕ
  pub own : OwnCacheState
  pub here : IsOwnFor w cpu arena cache index own
  pub is : Is own.cpu

-- one of its own caches takes what its hand has, and has room for it
pub record CanPushHand (w : WorldState) (cpu : ℕ) : Type 0 where
  pub index : ℕ
  pub own : OwnCacheState
  pub chunk : Tag
  pub takes : TakesHand w cpu index own chunk
  pub room : ¬ BothFull own.cpu

-- the depot of the CPU's own cache, where the two are so
pub record HasDepot (w : WorldState) (cpu arena cache : ℕ)
    (Are : CpuCacheState → DepotState → Type 0) : Type 0 where
  pub index : ℕ
  pub own : OwnCacheState
  pub depot : QuantumCacheState
  pub here : IsOwnFor w cpu arena cache index own
  pub at : IsCacheAt w.stock arena cache depot
  pub are : Are own.cpu depot.depot

-- magazines of this size may take the place of the CPU's: they are greater, and no greater than the
-- depot's
abbrev pub CanGrowTo : ℕ → CpuCacheState → DepotState → Type 0
CanGrowTo size c d = IsSize size × (c.size < size) × (size ≤ d.size)

-- the CPU has a segment in its hand, or a round in a cache of its own
abbrev pub HasSegment : WorldState → ℕ → Type 0
HasSegment w cpu = ((t : Tag) × HasInHand w cpu (Some t))
    ⊎ ((index : ℕ) × (own : OwnCacheState) × HasRoundAt w cpu index own)

-- where an event can be tried: the client is there, or the CPU, its hand, its request, the arena
-- and the message are as the event asks
abbrev pub IsReady : WorldEvent → WorldState → Type 0
IsReady (events.Restarts c i p) w = c < length w.clients
IsReady (events.Says c op) w = c < length w.clients
IsReady (events.Repeats c number) w = c < length w.clients
IsReady (events.Hears c which) w = (c < length w.clients) × (which < length w.replies)
IsReady (events.Looks cpu which) w = (which < length w.requests) × IsIdle w cpu
IsReady (events.Settles cpu) w = (id : RequestId) × (lease : LeaseLine) × (segment : Tag)
    × (quantum : ℕ) × CanGrant w cpu id lease segment quantum
IsReady (events.Declines cpu why) w = MayDecline why
    × (id : RequestId) × (op : Op) × HasTask w cpu id op
IsReady (events.GivesUp cpu) w = (id : RequestId) × (op : Op) × HasTask w cpu id op
IsReady (events.Releases cpu) w = (id : RequestId) × (release : ReleaseLine) × (arena : ℕ)
    × CanRelease w cpu id release arena
IsReady (events.Sweeps cpu c) w = HasInHand w cpu None × HasOldLease w c
IsReady (events.Carves cpu arena q) w = HasInHand w cpu None × (arena < length w.stock)
IsReady (events.Frees cpu) w = (t : Tag) × HasInHand w cpu (Some t) × IsTaggedIn w.stock t
IsReady (events.AddCarves cpu child size) w = (span : Tag) × (s : SpaceState)
    × HasInHand w cpu (Some span) × (slice_get w.stock child ≡ Some s)
    × CanImport (plain_of size) span s
IsReady (events.SlabTakes cpu arena cache) w = HasInHand w cpu None × (c : QuantumCacheState)
    × IsCacheAt w.stock arena cache c × ¬ All IsAllOut c.slab.slabs
IsReady (events.SlabPuts cpu) w = (t : Tag) × (j : ℕ)
    × HasInHand w cpu (Some t) × IsOutOf w.stock j t
IsReady (events.SlabAdds cpu arena cache) w = (span : Tag) × (c : QuantumCacheState)
    × HasSpanFor w cpu arena cache span c
IsReady (events.SlabReaps cpu arena cache) w = HasInHand w cpu None × (c : QuantumCacheState)
    × IsCacheAt w.stock arena cache c × ¬ All (λ s. ¬ IsComplete s) c.slab.slabs
IsReady (events.DepotReaps cpu arena cache) w =
    HasInHand w cpu None × HasRoundToReap w arena cache
IsReady (events.Pops cpu arena cache) w = HasInHand w cpu None
    × HasOwn w cpu arena cache (λ c. ¬ BothEmpty c)
IsReady (events.Pushes cpu) w = CanPushHand w cpu
IsReady (events.SwapsFull cpu arena cache) w = HasOwn w cpu arena cache BothEmpty
IsReady (events.SwapsEmpty cpu arena cache) w = HasOwn w cpu arena cache BothFull
IsReady (events.SwapsFresh cpu arena cache) w = HasOwn w cpu arena cache BothFull
IsReady (events.Changes cpu arena cache size) w = HasDepot w cpu arena cache (CanGrowTo size)
IsReady (events.Adopts cpu other) w = (cpu ≢ other) × (other < length w.failed)
    × HasInHand w cpu None × HasSegment w other
IsReady (events.Grows arena range) w = OnRoot arena (λ a. Unit {0}) w.stock
IsReady (events.Ticks arena cache) w = HasCache w.stock arena cache
IsReady (events.Resizes arena cache size) w = HasCache w.stock arena cache × IsSize size

-- where it can happen: where its part doesn't refuse it either
abbrev pub IsEnabled : WorldEvent → WorldState → Type 0
IsEnabled (events.Restarts c i p) w =
    (x : ClientState) × (slice_get w.clients c ≡ Some x) × (may_restart i x ≡ true)
IsEnabled (events.Says c op) w =
    (x : ClientState) × (slice_get w.clients c ≡ Some x) × (refusal op x ≡ None)
IsEnabled (events.Repeats c number) w = (x : ClientState) × (line : Line)
    × (slice_get w.clients c ≡ Some x) × (sent_again number x ≡ Some line)
IsEnabled (events.Carves cpu arena q) w = HasInHand w cpu None × (s : SpaceState)
    × (slice_get w.stock arena ≡ Some s) × CanCarve s q
IsEnabled (events.SlabAdds cpu arena cache) w = (span : Tag) × (c : QuantumCacheState)
    × HasSpanFor w cpu arena cache span c × (span.holding.range.len ≡ c.slab.slab_size)
IsEnabled (events.Grows arena range) w = OnRoot arena (λ a. CanGrow a range) w.stock
IsEnabled (events.Resizes arena cache size) w = (c : QuantumCacheState)
    × IsCacheAt w.stock arena cache c × IsSize size × (c.depot.size < size)
IsEnabled (events.SwapsFull cpu arena cache) w = HasDepot w cpu arena cache
    (λ c d. BothEmpty c × (c.size ≡ d.size) × (d.full ≢ []))
IsEnabled (events.SwapsEmpty cpu arena cache) w = HasDepot w cpu arena cache
    (λ c d. BothFull c × (c.size ≡ d.size) × (d.empty ≢ 0))
IsEnabled (events.SwapsFresh cpu arena cache) w = HasDepot w cpu arena cache
    (λ c d. BothFull c × (c.size ≡ d.size))
IsEnabled event w = IsReady event w

-- why its part refuses an event that can be tried
abbrev pub RefusesEvent : WorldEvent → EventFault → WorldState → Type 0
RefusesEvent (events.Restarts c i p) faults.NotGreater w =
    (x : ClientState) × (slice_get w.clients c ≡ Some x) × (may_restart i x ≡ false)
RefusesEvent (events.Says c op) faults.NotOpen w = (x : ClientState) × (back : Op)
    × (slice_get w.clients c ≡ Some x) × (refusal op x ≡ Some (sending.NotOpen back))
RefusesEvent (events.Says c op) faults.Busy w = (x : ClientState) × (back : Op)
    × (slice_get w.clients c ≡ Some x) × (refusal op x ≡ Some (sending.Busy back))
RefusesEvent (events.Says c op) faults.NotHeld w = (x : ClientState) × (back : Op)
    × (slice_get w.clients c ≡ Some x) × (refusal op x ≡ Some (sending.NotHeld back))
RefusesEvent (events.Says c op) faults.Exhausted w = (x : ClientState) × (back : Op)
    × (slice_get w.clients c ≡ Some x) × (refusal op x ≡ Some (sending.Exhausted back))
RefusesEvent (events.Repeats c number) faults.Nothing w =
    (x : ClientState) × (slice_get w.clients c ≡ Some x) × (sent_again number x ≡ None)
RefusesEvent (events.Carves cpu arena q) faults.BadRequest w = HasInHand w cpu None
    × (s : SpaceState) × (slice_get w.stock arena ≡ Some s) × ¬ IsGood s.arena.quantum q
RefusesEvent (events.Carves cpu arena q) faults.NoFit w = HasInHand w cpu None × (s : SpaceState)
    × (slice_get w.stock arena ≡ Some s) × IsGood s.arena.quantum q × IsChosen s.arena q None
RefusesEvent (events.SlabAdds cpu arena cache) faults.WrongSize w = (span : Tag)
    × (c : QuantumCacheState) × HasSpanFor w cpu arena cache span c
    × (span.holding.range.len ≢ c.slab.slab_size)
RefusesEvent (events.Grows arena range) faults.Overlaps w =
    RefusesToGrow arena range growing.Overlaps w.stock
RefusesEvent (events.Grows arena range) faults.NotAligned w =
    RefusesToGrow arena range growing.NotAligned w.stock
RefusesEvent (events.Grows arena range) faults.TooMany w =
    RefusesToGrow arena range growing.TooMany w.stock
RefusesEvent (events.Resizes arena cache size) faults.NotGreater w = (c : QuantumCacheState)
    × IsCacheAt w.stock arena cache c × IsSize size × (size ≤ c.depot.size)
RefusesEvent (events.SwapsFull cpu arena cache) faults.OldSize w =
    HasDepot w cpu arena cache (λ c d. BothEmpty c × (c.size ≢ d.size))
RefusesEvent (events.SwapsFull cpu arena cache) faults.NoneFull w =
    HasDepot w cpu arena cache (λ c d. BothEmpty c × (c.size ≡ d.size) × (d.full ≡ []))
RefusesEvent (events.SwapsEmpty cpu arena cache) faults.OldSize w =
    HasDepot w cpu arena cache (λ c d. BothFull c × (c.size ≢ d.size))
RefusesEvent (events.SwapsEmpty cpu arena cache) faults.NoneEmpty w =
    HasDepot w cpu arena cache (λ c d. BothFull c × (c.size ≡ d.size) × (d.empty ≡ 0))
RefusesEvent (events.SwapsFresh cpu arena cache) faults.OldSize w =
    HasDepot w cpu arena cache (λ c d. BothFull c × (c.size ≢ d.size))
RefusesEvent event why w = ⊥

-- the line that comes is a request whose number is new: nothing is written at such a look
abbrev pub BringsNew : ℕ → WorldState → Type 0
BringsNew which w = (id : RequestId) × (op : Op)
    × (slice_get w.requests which ≡ Some (lines.Request id op))
    × IsNew (account_in id.client w.book) id

-- where an event may want memory: only where it can happen, and some events never do
abbrev pub MayWantMemory : WorldEvent → WorldState → Type 0
MayWantMemory (events.Hears c which) w = ⊥
MayWantMemory (events.Looks cpu which) w =
    IsReady (events.Looks cpu which) w × ¬ BringsNew which w
MayWantMemory (events.Frees cpu) w = ⊥
MayWantMemory (events.SlabTakes cpu arena cache) w = ⊥
MayWantMemory (events.SlabPuts cpu) w = ⊥
MayWantMemory (events.SlabReaps cpu arena cache) w = ⊥
MayWantMemory (events.DepotReaps cpu arena cache) w = ⊥
MayWantMemory (events.Pops cpu arena cache) w = ⊥
MayWantMemory (events.Pushes cpu) w = ⊥
MayWantMemory (events.Adopts cpu other) w = ⊥
MayWantMemory (events.SwapsFull cpu arena cache) w = ⊥
MayWantMemory (events.SwapsEmpty cpu arena cache) w = ⊥
MayWantMemory (events.Ticks arena cache) w = ⊥
MayWantMemory (events.Resizes arena cache size) w = ⊥
MayWantMemory event w = IsEnabled event w

-- the move of an event
abbrev pub MovesBy : WorldEvent → (old new : WorldState) → Type 0
MovesBy (events.Restarts c i p) old new =
    ClientSays c (λ x y line. IsRestarted i p x y (Ok line)) old new
MovesBy (events.Says c op) old new = ClientSays c (λ x y line. IsSent op x y (Ok line)) old new
MovesBy (events.Repeats c number) old new =
    ClientSays c (λ x y line. (sent_again number x ≡ Some line) × (y ≡ x)) old new
MovesBy (events.Hears c which) old new = ClientHears c which old new
MovesBy (events.Looks cpu which) old new = HelloTaken which old new
    ⊎ HelloRefused which old new ⊎ AnsweredAtOnce which old new ⊎ TaskTaken cpu which old new
MovesBy (events.Settles cpu) old new =
    TaskGranted cpu old new
    ⊎ (TaskRefused cpu refusals.Leases old new × HasAllLeases old cpu)
    ⊎ TaskAnswered cpu old new
MovesBy (events.Declines cpu why) old new = TaskRefused cpu why old new ⊎ TaskAnswered cpu old new
MovesBy (events.GivesUp cpu) old new = TaskGivenUp cpu old new
MovesBy (events.Releases cpu) old new =
    TaskReleased cpu old new
    ⊎ (TaskRefused cpu refusals.NotYours old new × HasNoSuchLease old cpu)
    ⊎ TaskAnswered cpu old new
MovesBy (events.Sweeps cpu c) old new = LeaseSwept cpu c old new
MovesBy (events.Carves cpu arena q) old new = (t : Tag)
    × HandMoves cpu None (Some t) (OnArena arena (λ a b. WasCarved a q t b)) old new
MovesBy (events.Frees cpu) old new = (t : Tag) × (back : Option Tag)
    × HandMoves cpu (Some t) back (λ a b. FreeIn a t (Ok back) b) old new
MovesBy (events.AddCarves cpu child size) old new = (span t : Tag)
    × HandMoves cpu (Some span) (Some t)
    (OnArena child (λ a b. WasImported a span (plain_of size) t b)) old new
MovesBy (events.SlabTakes cpu arena cache) old new = (t : Tag)
    × HandMoves cpu None (Some t) (OnSlab arena cache (λ a b. TakeOf a (Some t) b)) old new
MovesBy (events.SlabPuts cpu) old new = (t : Tag)
    × HandMoves cpu (Some t) None (λ a b. PutIn a t (Ok tt) b) old new
MovesBy (events.SlabAdds cpu arena cache) old new = (span t : Tag)
    × HandMoves cpu (Some span) (Some t) (OnSlab arena cache (λ a b. AddOf a span (Ok t) b)) old new
MovesBy (events.SlabReaps cpu arena cache) old new = (t : Tag)
    × HandMoves cpu None (Some t) (OnSlab arena cache (λ a b. ReapOf a (Some t) b)) old new
MovesBy (events.DepotReaps cpu arena cache) old new = (t : Tag)
    × HandMoves cpu None (Some t) (OnDepot arena cache (λ a b. DepotReapOf a (Some t) b)) old new
MovesBy (events.Pops cpu arena cache) old new = RoundPopped cpu arena cache old new
MovesBy (events.Pushes cpu) old new = RoundPushed cpu old new
MovesBy (events.SwapsFull cpu arena cache) old new = OwnMoves cpu arena cache
    (λ c x s v. OnDepot arena cache (λ d e. SwapFullOf c d (Ok tt) x e) s v) old new
MovesBy (events.SwapsEmpty cpu arena cache) old new = OwnMoves cpu arena cache
    (λ c x s v. OnDepot arena cache (λ d e. SwapEmptyOf c d (Ok tt) x e) s v) old new
MovesBy (events.SwapsFresh cpu arena cache) old new = OwnMoves cpu arena cache
    (λ c x s v. OnDepot arena cache (λ d e. PutFullOf c d (empty_magazine c.size) (Ok tt) x e) s v)
    old new
MovesBy (events.Changes cpu arena cache size) old new = OwnMoves cpu arena cache
    (λ c x s v. (x ≡ after_change size c) × (v ≡ s)) old new
MovesBy (events.Adopts cpu other) old new =
    HandAdopted cpu other old new ⊎ RoundAdopted cpu other old new
MovesBy (events.Grows arena range) old new = PartMoves
    (OnArena arena (λ a b. b ≡ after_add a (next_root arena a range))) old new
MovesBy (events.Ticks arena cache) old new =
    PartMoves (OnDepot arena cache (λ a b. b ≡ after_tick a)) old new
MovesBy (events.Resizes arena cache size) old new =
    PartMoves (OnDepot arena cache (λ a b. ResizeOf a size (Ok tt) b)) old new

-- how an event ends that isn't of a CPU that has failed: by its move where it can happen, or, there
-- alone, out of memory; else by its part's refusal, or as not enabled where it can't even be tried.
-- But for the move nothing changes
abbrev pub EndsAs : WorldEvent → Outcome → (old new : WorldState) → Type 0
EndsAs event Done old new = IsEnabled event old × MovesBy event old new
EndsAs event NotEnabled old new = (¬ IsReady event old) × (new ≡ old)
EndsAs event (Refused why) old new = RefusesEvent event why old × (new ≡ old)
EndsAs event NoMemory old new = MayWantMemory event old × (new ≡ old)

-- the CPU whose event it is, if it is a CPU's
abbrev pub cpu_of : WorldEvent → Option ℕ
cpu_of (events.Looks cpu which) = Some cpu
cpu_of (events.Settles cpu) = Some cpu
cpu_of (events.Declines cpu why) = Some cpu
cpu_of (events.GivesUp cpu) = Some cpu
cpu_of (events.Releases cpu) = Some cpu
cpu_of (events.Sweeps cpu c) = Some cpu
cpu_of (events.Carves cpu arena q) = Some cpu
cpu_of (events.Frees cpu) = Some cpu
cpu_of (events.AddCarves cpu child size) = Some cpu
cpu_of (events.SlabTakes cpu arena cache) = Some cpu
cpu_of (events.SlabPuts cpu) = Some cpu
cpu_of (events.SlabAdds cpu arena cache) = Some cpu
cpu_of (events.SlabReaps cpu arena cache) = Some cpu
cpu_of (events.DepotReaps cpu arena cache) = Some cpu
cpu_of (events.Pops cpu arena cache) = Some cpu
cpu_of (events.Pushes cpu) = Some cpu
cpu_of (events.SwapsFull cpu arena cache) = Some cpu
cpu_of (events.SwapsEmpty cpu arena cache) = Some cpu
cpu_of (events.SwapsFresh cpu arena cache) = Some cpu
cpu_of (events.Changes cpu arena cache size) = Some cpu
cpu_of (events.Adopts cpu other) = Some cpu
cpu_of event = None

-- it is of a CPU that has failed
abbrev pub IsOfFailed : WorldEvent → WorldState → Type 0
IsOfFailed event w = (cpu : ℕ) × (cpu_of event ≡ Some cpu) × (slice_get w.failed cpu ≡ Some true)

-- what becomes of an event: one of a CPU that has failed isn't enabled and changes nothing, and any
-- other ends as said above
abbrev pub HappensAs : WorldEvent → Outcome → (old new : WorldState) → Type 0
HappensAs event outcome old new =
    (IsOfFailed event old × (outcome ≡ NotEnabled) × (new ≡ old))
    ⊎ ((¬ IsOfFailed event old) × EndsAs event outcome old new)

-- the move is made, or its part was out of memory
abbrev pub Tries : (WorldState → WorldState → Type 0) → Outcome → (old new : WorldState) → Type 0
Tries Move Done old new = Move old new
Tries Move NotEnabled old new = ⊥
Tries Move (Refused why) old new = ⊥
Tries Move NoMemory old new = new ≡ old

-- events one after the other, each with its outcome
abbrev pub HappensTo : List WorldEvent → List Outcome → (old new : WorldState) → Type 0
HappensTo [] [] old new = new ≡ old
HappensTo (event ∷ events) (outcome ∷ outcomes) old new =
    (next : WorldState) × HappensAs event outcome old next × HappensTo events outcomes next new
HappensTo events outcomes old new = ⊥

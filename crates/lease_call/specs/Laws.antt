-- Laws of the lists of steps of lines, over all trees: how many locks of parts they take, where
-- each segment is then, when nothing fits, and what a stop ends. A call of the book takes none of
-- the locks, and what was in the hand before is a free of its own.
use Rattle.std.specs.Prelude.{◌≡◌, ℕ, ◌+◌, ◌*◌, ◌≤◌, List, [], Option, Some, None, Ok, Err}
use Rattle.std.specs.Prelude.{length, false}
use Rattle.deed_core.specs.Tag.{Tag}
use Rattle.lease_terms.specs.Requests.{RequestId}
use Rattle.arena_tree.specs.Events.{AnswerTo, locks}
use Rattle.arena_tree.specs.Sound.{Sound}
use Rattle.arena_tree.specs.Trees.{IsTree, index_in, nodes_of}
use Rattle.arena_tree.specs.declared.limits.TheConstants.{LONGEST_CHAIN}
use Rattle.arena_tree.specs.declared.trees.TreeArena.{TreeArena}
use Rattle.quantum_cache.specs.Caches.{chain_in}
use Rattle.lease_book.specs.BookState.{BookState}
use Rattle.lease_proto.specs.declared.lines.HelloLine.{HelloLine}
use Rattle.lease_proto.specs.declared.lines.LeaseLine.{LeaseLine}
use Rattle.lease_proto.specs.declared.lines.Op.{Op}
use Rattle.lease_proto.specs.declared.lines.ReleaseLine.{ReleaseLine}
use Rattle.lease_call.specs.Answered.{EndsTold}
use Rattle.lease_call.specs.BookEvents.{BookEvent}
use Rattle.lease_call.specs.CallPlans.{CallPlan, Done, Part, Call}
use Rattle.lease_call.specs.Calls.{BookCall, AnswerOf}
use Rattle.lease_call.specs.Greeting.{HelloEnd, greet_plan, hello_plan}
use Rattle.lease_call.specs.Kept.{CallHandles, HandsBack, IsAllKept, call_left}
use Rattle.lease_call.specs.Leasing.{lease_plan}
use Rattle.lease_call.specs.Refusing.{AskedAfter, NoFitAfter}
use Rattle.lease_call.specs.Releasing.{CallEnd, release_plan}
use Rattle.lease_call.specs.Requesting.{request_plan}
use Rattle.lease_call.specs.Stopping.{StopsLast, call_stopped, is_stopped_call}
use Rattle.lease_call.specs.declared.outcomes.Outcome.TheVariants.{Settled, Answered, Again}

-- after so many locks, there are at most so many in all, by what it ends with
abbrev pub CallWithin : {D A : Type 0} → (A → ℕ) → CallPlan D A → ℕ → Type 0
CallWithin most (Done a) n = n ≤ most a
CallWithin most (Part e f) n = (x : AnswerTo e) → CallWithin most (f x) (n + locks e)
CallWithin {D = D} most (Call k f) n = (x : AnswerOf D k) → CallWithin most (f x) n

-- how many arenas there are from the one of this name upwards; 0 without one
abbrev pub depth_at : List TreeArena → Option ℕ → ℕ
depth_at arenas None = 0
depth_at arenas (Some id) = length (chain_in arenas id)

-- those of an allocation; where the book doesn't lease what was taken, that goes back
abbrev pub lease_most : {D : Type 0} → ℕ → CallEnd D → ℕ
lease_most depth (Ok (Settled v)) = 8 + 2 * depth
lease_most depth (Ok (Answered a)) = 8 + 2 * depth + LONGEST_CHAIN
lease_most depth (Ok Again) = 8 + 2 * depth
lease_most depth (Err e) = 8 + 2 * depth + LONGEST_CHAIN

-- A lease of an arena with d arenas in its chain takes at most 8 + 2 d locks, or four more where it
-- isn't granted.
abbrev pub LeaseIsShort : Type 0 → Type 0
LeaseIsShort D = (arenas : List TreeArena) (id : RequestId) (l : LeaseLine)
    → CallWithin {D = D} (lease_most (depth_at arenas (index_in l.arena arenas)))
    (lease_plan arenas id l) 0

-- A release takes at most four.
abbrev pub ReleaseIsShort : Type 0 → Type 0
ReleaseIsShort D = (arenas : List TreeArena) (id : RequestId) (l : ReleaseLine)
    → CallWithin {D = D} (λ (r : CallEnd D). LONGEST_CHAIN) (release_plan arenas id l) 0

-- A hello takes at most four for each sweep.
abbrev pub HelloIsShort : Type 0 → Type 0
HelloIsShort D = (arenas : List TreeArena) (h : HelloLine) (turns : ℕ)
    → CallWithin {D = D} (λ (r : HelloEnd D). turns * LONGEST_CHAIN) (greet_plan arenas h turns) 0

-- A line begins with what a line before it left in the hand; each step is asked with an empty hand,
-- or with the segment in it, and in the end the hand is as the line's end says.
abbrev pub RequestHandles : Type 0 → Type 0
RequestHandles D = (arenas : List TreeArena) (hand : Option Tag) (id : RequestId) (op : Op)
    → CallHandles {D = D} call_left (request_plan arenas hand id op) hand

abbrev pub HelloHandles : Type 0 → Type 0
HelloHandles D = (arenas : List TreeArena) (hand : Option Tag) (h : HelloLine) (turns : ℕ)
    → CallHandles {D = D} call_left (hello_plan arenas hand h turns) hand

-- No line loses a segment: what was in the hand, what parts gave, and what the ended leases were of
-- went into parts, or was leased, or is left in the hand, whatever parts answer soundly and
-- whatever book hands back what it doesn't lease.
abbrev pub RequestKeeps : Type 0 → Type 0
RequestKeeps D = (arenas : List TreeArena) (hand : Option Tag) (id : RequestId) (op : Op)
    → EndsTold (Sound (nodes_of arenas)) (HandsBack D)
    (λ told r. IsAllKept hand (call_left r) told) (request_plan arenas hand id op) []

abbrev pub HelloKeeps : Type 0 → Type 0
HelloKeeps D = (arenas : List TreeArena) (hand : Option Tag) (h : HelloLine) (turns : ℕ)
    → EndsTold (Sound (nodes_of arenas)) (HandsBack D)
    (λ told r. IsAllKept hand (call_left r) told) (hello_plan arenas hand h turns) []

-- The books of which that is so: an event of the book hands back what isn't leased. (So does a call
-- that was stopped, by what that is.)
abbrev pub EventHandsBack : Type 0 → Type 0
EventHandsBack D = (b c : BookState) (k : BookCall) (a : AnswerOf D k) → BookEvent D b k a c
    → HandsBack D k a

-- The book is asked to refuse a request for NoFit only where each carve of the last climb found
-- none.
abbrev pub NoFitIsLast : Type 0 → Type 0
NoFitIsLast D = (arenas : List TreeArena) (hand : Option Tag) (id : RequestId) (op : Op)
    → IsTree arenas
    → EndsTold {D = D} (Sound (nodes_of arenas)) (λ k a. Unit {0})
    (λ told r. AskedAfter (NoFitAfter arenas op) told) (request_plan arenas hand id op) []

-- A step that is stopped is the last one, and its line ends as stopped; no other line ends so.
abbrev pub RequestStops : Type 0 → Type 0
RequestStops D = (arenas : List TreeArena) (hand : Option Tag) (id : RequestId) (op : Op)
    → StopsLast {D = D} call_stopped (request_plan arenas hand id op) false

abbrev pub HelloStops : Type 0 → Type 0
HelloStops D = (arenas : List TreeArena) (hand : Option Tag) (h : HelloLine) (turns : ℕ)
    → StopsLast {D = D} call_stopped (hello_plan arenas hand h turns) false

-- No event of a book is a stop.
abbrev pub EventGoesOn : Type 0 → Type 0
EventGoesOn D = (b c : BookState) (k : BookCall) (a : AnswerOf D k) → BookEvent D b k a c
    → is_stopped_call D k a ≡ false

-- A stop ends a line's list of steps, and the line ends as stopped just then.
use Rattle.std.proofs.Common.{◌≡◌, ℕ, zero, suc, List, Option, Some, None, Result, Ok, Err, Bool, true, false, refl, subst, length, nat_lt, if◌then◌else◌}
use Rattle.deed_core.specs.Tag.{Tag}
use Rattle.deed_core.specs.declared.requests.Request.{Request}
use Rattle.lease_terms.specs.Requests.{RequestId}
use Rattle.lease_terms.specs.declared.protocols.Protocol.{Protocol}
use Rattle.lease_book.specs.Words.{Greeted}
use Rattle.lease_terms.specs.declared.refusals.Refusal.{Refusal}
use Rattle.lease_terms.specs.declared.refusals.Refusal.TheVariants.{NoArena, BadRequest, NoFit}
use Rattle.arena_tree.specs.Climbs.{ClimbEnd, ReturnEnd}
use Rattle.arena_tree.specs.Events.{Carve}
use Rattle.arena_tree.specs.Plans as plans
use Rattle.arena_tree.specs.Plans.{Plan}
use Rattle.arena_tree.specs.Stops.{is_stopped, refuses_by}
use Rattle.arena_tree.specs.Trees.{index_in}
use Rattle.arena_tree.specs.declared.part_faults.PartFault.{PartFault}
use Rattle.arena_tree.specs.declared.part_faults.PartFault.TheVariants as asking
use Rattle.arena_tree.specs.declared.part_faults.ClimbFault.TheVariants as climbing
use Rattle.arena_tree.specs.declared.part_faults.ReturnFault.TheVariants as returning
use Rattle.arena_tree.specs.declared.part_faults.Stopped.{Stopped}
use Rattle.arena_tree.specs.declared.trees.TreeArena.{TreeArena}
use Rattle.tag_arena.specs.declared.faults.ArenaFault.{ArenaFault}
use Rattle.tag_arena.specs.declared.faults.ArenaFault.TheVariants as arena_fault
use Rattle.quantum_cache.specs.Caches.{chain_in}
use Rattle.quantum_cache.specs.Frees.{free_plan}
use Rattle.lease_book.specs.Receipts.{ReceiptState}
use Rattle.lease_book.specs.declared.answers.Answer.{Answer}
use Rattle.lease_proto.specs.Requests.{demand_of}
use Rattle.lease_proto.specs.declared.lines.Op.{Op}
use Rattle.lease_proto.specs.declared.lines.Op.TheVariants as ops
use Rattle.lease_call.specs.Calls.{Look, Settle, Refuse, Release, Hello, Sweep}
use Rattle.lease_call.specs.CallPlans.{CallPlan, Done, over_parts}
use Rattle.lease_call.specs.Greeting.{on_sweep, sweep_plan, on_hello, greet_plan}
use Rattle.lease_call.specs.Hands.{on_place, place_first, hand_first}
use Rattle.lease_call.specs.Laws.{RequestStops, HelloStops, EventGoesOn}
use Rattle.lease_call.specs.Leasing.{is_plain, carve_end, take_steps, take_plan, on_settle, on_take, lease_at, on_look}
use Rattle.lease_call.specs.Placing.{place_plan}
use Rattle.lease_call.specs.Releasing.{CallEnd, on_refuse, on_release, release_at}
use Rattle.lease_call.specs.Requesting.{op_plan}
use Rattle.lease_call.specs.Stopping.{StopsLast, call_stopped, is_stopped_call, settle_stops}
use Rattle.lease_call.specs.declared.call_faults.CallFault.{CallFault}
use Rattle.lease_call.specs.declared.call_faults.NotGreeted.{NotGreeted}
use Rattle.lease_call.specs.declared.call_faults.NotGreeted.TheVariants as greeting
use Rattle.lease_call.specs.declared.call_faults.NotReleased.{NotReleased}
use Rattle.lease_call.specs.declared.call_faults.NotReleased.TheVariants as releasing
use Rattle.lease_call.specs.declared.call_faults.NotSettled.{NotSettled}
use Rattle.lease_call.specs.declared.call_faults.NotSettled.TheVariants as settling
use Rattle.lease_call.specs.declared.outcomes.Outcome.TheVariants.{Settled, Answered}
use Rattle.lease_call.proofs.PartStops.{PartsStop, return_stopped, climb_stopped, alloc_stops, free_stops}

over_stops : {D X A : Type 0} (ends : X → Bool) (ends' : A → Bool) (p : Plan X) (next : X → CallPlan D A) (b : Bool) → PartsStop ends p b → ((x : X) → StopsLast ends' (next x) (ends x)) → StopsLast ends' (over_parts p next) b
over_stops ends ends' (plans.Done x) next b w f = subst (StopsLast ends' (next x)) w (f x)
over_stops ends ends' (plans.Ask e g) next true w f = absurd w
over_stops ends ends' (plans.Ask e g) next false w f = λ x. over_stops ends ends' (g x) next (is_stopped e x) (w x) f

module _ (arenas : List TreeArena) where
  place_stops : (t : Tag) → PartsStop return_stopped (place_plan arenas t) false
  place_stops t = by (nat_lt t.arena (length arenas))
    where
      by : (b : Bool) → PartsStop return_stopped (if b then free_plan (chain_in arenas t.arena) t else plans.Done (Err (returning.Stuck t))) false
      by true = free_stops (chain_in arenas t.arena) t
      by false = refl

  -- a segment goes back, and then the rest
  first_stops : {D A : Type 0} (t : Tag) (rest : CallPlan D (Result A (CallFault Tag))) → StopsLast call_stopped rest false → StopsLast call_stopped (place_first arenas t rest) false
  first_stops t rest w = over_stops return_stopped call_stopped (place_plan arenas t) (on_place rest) false (place_stops t) back
    where
      back : (r : ReturnEnd) → StopsLast call_stopped (on_place rest r) (return_stopped r)
      back (Ok u) = w
      back (Err (returning.Stuck x)) = refl
      back (Err (returning.Stopped x)) = refl

  hand_stops : {D A : Type 0} (hand : Option Tag) (rest : CallPlan D (Result A (CallFault Tag))) → StopsLast call_stopped rest false → StopsLast call_stopped (hand_first arenas hand rest) false
  hand_stops None rest w = w
  hand_stops (Some t) rest w = first_stops t rest w

  module _ (D : Type 0) (id : RequestId) where
    refused_stops : (why : Refusal) (x : Result (Answer D) Stopped) → call_stopped (on_refuse x) ≡ is_stopped_call D (Refuse id why) x
    refused_stops why (Ok a) = refl
    refused_stops why (Err e) = refl

    released_stops : (arena base : ℕ) (x : Result (ReceiptState × Tag) (NotReleased D)) → StopsLast {D = D} call_stopped (on_release arenas x) (is_stopped_call D (Release id arena base) x)
    released_stops arena base (Ok r) = first_stops r.1 (Done (Ok (Settled r.0))) refl
    released_stops arena base (Err (releasing.Answered a)) = refl
    released_stops arena base (Err releasing.Stopped) = refl

    release_stops_at : (base : ℕ) (o : Option ℕ) → StopsLast {D = D} call_stopped (release_at arenas id base o) false
    release_stops_at base None = refused_stops NoArena
    release_stops_at base (Some arena) = released_stops arena base

    settled_stops : (x : Result ReceiptState (NotSettled Tag D)) → StopsLast {D = D} call_stopped (on_settle arenas x) (refuses_by settle_stops x)
    settled_stops (Ok v) = refl
    settled_stops (Err (settling.NotLeased n)) = first_stops n.segment (Done (Ok (Answered n.answer))) refl
    settled_stops (Err (settling.Stopped t)) = refl

    taken_stops : (arena : ℕ) (q : Request) (r : ClimbEnd) → StopsLast {D = D} call_stopped (on_take arenas id arena q r) (climb_stopped r)
    taken_stops arena q (Ok t) = settled_stops
    taken_stops arena q (Err (climbing.Refused arena_fault.BadRequest)) = refused_stops BadRequest
    taken_stops arena q (Err (climbing.Refused arena_fault.NoFit)) = refused_stops NoFit
    taken_stops arena q (Err (climbing.Refused arena_fault.NoMemory)) = refl
    taken_stops arena q (Err (climbing.Stuck t)) = refl
    taken_stops arena q (Err (climbing.Stopped o)) = refl

    carved_stops : (arena : ℕ) (q : Request) (x : Result Tag (PartFault ArenaFault)) → climb_stopped (carve_end x) ≡ is_stopped (Carve arena q) x
    carved_stops arena q (Ok t) = refl
    carved_stops arena q (Err (asking.Refused f)) = refl
    carved_stops arena q (Err asking.Stopped) = refl

    take_stops : (arena : ℕ) (q : Request) (b : Bool) → PartsStop climb_stopped (take_steps b arenas arena q) false
    take_stops arena q true = alloc_stops (chain_in arenas arena) q.size
    take_stops arena q false = carved_stops arena q

    lease_stops : (q : Request) (o : Option ℕ) → StopsLast {D = D} call_stopped (lease_at arenas id q o) false
    lease_stops q None = refused_stops NoArena
    lease_stops q (Some arena) = over_stops climb_stopped call_stopped (take_plan arenas arena q) (on_take arenas id arena q) false (take_stops arena q (is_plain q)) (taken_stops arena q)

    looked_stops : (new : CallPlan D (CallEnd D)) → StopsLast call_stopped new false → (x : Result (Option (Answer D)) Stopped) → StopsLast call_stopped (on_look new x) (is_stopped_call D (Look id) x)
    looked_stops new w (Ok None) = w
    looked_stops new w (Ok (Some a)) = refl
    looked_stops new w (Err e) = refl

    op_stops : (op : Op) → StopsLast {D = D} call_stopped (op_plan arenas id op) false
    op_stops (ops.Lease l) = looked_stops (lease_at arenas id (demand_of l) (index_in l.arena arenas)) (lease_stops (demand_of l) (index_in l.arena arenas))
    op_stops (ops.Release l) = release_stops_at l.base (index_in l.arena arenas)

  module _ (D : Type 0) where
    sweep_stops : (taken : Greeted) (turns : ℕ) → StopsLast {D = D} call_stopped (sweep_plan arenas taken turns) false
    sweep_stops taken zero = refl
    sweep_stops taken (suc turns) = by (sweep_stops taken turns)
      where
        by : StopsLast {D = D} call_stopped (sweep_plan arenas taken turns) false → (x : Result (Option (RequestId × Tag)) Stopped) → StopsLast {D = D} call_stopped (on_sweep arenas taken (sweep_plan arenas taken turns) x) (is_stopped_call D (Sweep taken.client) x)
        by again (Ok None) = refl
        by again (Ok (Some r)) = first_stops r.1 (sweep_plan arenas taken turns) again
        by again (Err e) = refl

    greeted_stops : (client incarnation : ℕ) (asked : Protocol) (turns : ℕ) (x : Result Greeted (NotGreeted D)) → StopsLast {D = D} call_stopped (on_hello arenas turns x) (is_stopped_call D (Hello client incarnation asked) x)
    greeted_stops client incarnation asked turns (Ok taken) = sweep_stops taken turns
    greeted_stops client incarnation asked turns (Err (greeting.Late f)) = refl
    greeted_stops client incarnation asked turns (Err greeting.Stopped) = refl

pub request_stops : (D : Type 0) → RequestStops D
request_stops D arenas hand id op = hand_stops arenas hand (op_plan arenas id op) (op_stops arenas D id op)

pub hello_stops_last : (D : Type 0) → HelloStops D
hello_stops_last D arenas hand h turns = hand_stops arenas hand (greet_plan arenas h turns) (greeted_stops arenas D h.client h.incarnation h.protocol turns)

pub event_goes_on : (D : Type 0) → EventGoesOn D
event_goes_on D b c (Look id) (Ok o) event = refl
event_goes_on D b c (Look id) (Err e) event = absurd event
event_goes_on D b c (Settle id given terms) (Ok r) event = refl
event_goes_on D b c (Settle id given terms) (Err (settling.NotLeased n)) event = refl
event_goes_on D b c (Settle id given terms) (Err (settling.Stopped t)) event = absurd event
event_goes_on D b c (Refuse id why) (Ok a) event = refl
event_goes_on D b c (Refuse id why) (Err e) event = absurd event
event_goes_on D b c (Release id arena base) (Ok r) event = refl
event_goes_on D b c (Release id arena base) (Err (releasing.Answered a)) event = refl
event_goes_on D b c (Release id arena base) (Err releasing.Stopped) event = absurd event
event_goes_on D b c (Hello client incarnation asked) (Ok u) event = refl
event_goes_on D b c (Hello client incarnation asked) (Err (greeting.Late f)) event = refl
event_goes_on D b c (Hello client incarnation asked) (Err greeting.Stopped) event = absurd event
event_goes_on D b c (Sweep client) (Ok o) event = refl
event_goes_on D b c (Sweep client) (Err e) event = absurd event

-- A lease, as a list of steps.
use Rattle.std.specs.Prelude.{ℕ, ◌==◌, ◌&&◌, ◌^◌, Bool, true, false, List, Option, Some, None}
use Rattle.std.specs.Prelude.{Result, Ok, Err}
use Rattle.deed_core.specs.Tag.{Tag}
use Rattle.deed_core.specs.declared.requests.Request.{Request}
use Rattle.lease_terms.specs.Requests.{RequestId}
use Rattle.lease_terms.specs.declared.refusals.Refusal.TheVariants as refusal
use Rattle.arena_tree.specs.Chains.{quantum_in}
use Rattle.arena_tree.specs.Climbs.{ClimbEnd}
use Rattle.arena_tree.specs.Plans as plans
use Rattle.arena_tree.specs.Plans.{Plan, then}
use Rattle.arena_tree.specs.Trees.{index_in, nodes_of}
use Rattle.arena_tree.specs.declared.part_faults.PartFault.{PartFault}
use Rattle.tag_arena.specs.declared.faults.ArenaFault.{ArenaFault}
use Rattle.arena_tree.specs.declared.part_faults.PartFault.TheVariants as asking
use Rattle.arena_tree.specs.declared.part_faults.ClimbFault.TheVariants as climbing
use Rattle.tag_arena.specs.declared.faults.ArenaFault.TheVariants as arena_fault
use Rattle.arena_tree.specs.declared.part_faults.Stopped.{Stopped}
use Rattle.arena_tree.specs.declared.trees.TreeArena.{TreeArena}
use Rattle.quantum_cache.specs.Allocs.{alloc_plan, xalloc_plan}
use Rattle.quantum_cache.specs.Caches.{chain_in}
use Rattle.lease_book.specs.Receipts.{ReceiptState}
use Rattle.lease_book.specs.declared.answers.Answer.{Answer}
use Rattle.lease_proto.specs.Requests.{demand_of}
use Rattle.lease_proto.specs.declared.lines.LeaseLine.{LeaseLine}
use Rattle.lease_call.specs.Calls.{Look, Settle}
use Rattle.lease_call.specs.CallPlans.{CallPlan, Done, Call, over_parts}
use Rattle.lease_call.specs.Hands.{place_first}
use Rattle.lease_call.specs.Releasing.{CallEnd, refuse_plan}
use Rattle.lease_call.specs.declared.call_faults.CallFault.TheVariants as calling
use Rattle.lease_call.specs.declared.call_faults.NotSettled.{NotSettled}
use Rattle.lease_call.specs.declared.call_faults.NotSettled.TheVariants as settling
use Rattle.lease_call.specs.declared.outcomes.Outcome.TheVariants.{Settled, Answered, Again}

-- whether none of the five constraints is set
abbrev pub is_plain : Request → Bool
is_plain q = (q.align == 0) && ((q.phase == 0) && ((q.nocross == 0)
    && ((q.min == 0) && (q.max == 2 ^ 62))))

-- one carve, by what it ends with
abbrev pub carve_end : Result Tag (PartFault ArenaFault) → ClimbEnd
carve_end (Ok t) = Ok t
carve_end (Err (asking.Refused f)) = Err (climbing.Refused f)
carve_end (Err asking.Stopped) = Err (climbing.Stopped None)

-- a segment of the arena: by its caches and its sources where the request is unconstrained, else by
-- one carve
abbrev pub take_steps : Bool → List TreeArena → ℕ → Request → Plan ClimbEnd
take_steps true arenas arena q = alloc_plan (chain_in arenas arena) q.size
take_steps false arenas arena q = then (xalloc_plan arena q) (λ r. plans.Done (carve_end r))

abbrev pub take_plan : List TreeArena → ℕ → Request → Plan ClimbEnd
take_plan arenas arena q = take_steps (is_plain q) arenas arena q

-- the book leases what was taken; else that goes back
abbrev pub on_settle : {D : Type 0} → List TreeArena → Result ReceiptState (NotSettled Tag D)
    → CallPlan D (CallEnd D)
on_settle arenas (Ok r) = Done (Ok (Settled r))
on_settle arenas (Err (settling.NotLeased n)) =
    place_first arenas n.segment (Done (Ok (Answered n.answer)))
on_settle arenas (Err (settling.Stopped t)) = Done (Err (calling.Stopped (Some t)))

abbrev pub grant_plan : {D : Type 0} → List TreeArena → RequestId → ℕ → Request → Tag
    → CallPlan D (CallEnd D)
grant_plan arenas id arena q t =
    Call (Settle id t (record { quantum = quantum_in (nodes_of arenas) arena; request = q }))
    (on_settle arenas)

-- by what came of the parts
abbrev pub on_take : {D : Type 0} → List TreeArena → RequestId → ℕ → Request → ClimbEnd
    → CallPlan D (CallEnd D)
on_take arenas id arena q (Ok t) = grant_plan arenas id arena q t
on_take arenas id arena q (Err (climbing.Refused arena_fault.BadRequest)) =
    refuse_plan id refusal.BadRequest
on_take arenas id arena q (Err (climbing.Refused arena_fault.NoFit)) = refuse_plan id refusal.NoFit
on_take arenas id arena q (Err (climbing.Refused arena_fault.NoMemory)) = Done (Ok Again)
on_take arenas id arena q (Err (climbing.Stuck t)) = Done (Err (calling.Stuck t))
on_take arenas id arena q (Err (climbing.Stopped o)) = Done (Err (calling.Stopped o))

abbrev pub lease_steps : {D : Type 0} → List TreeArena → RequestId → ℕ → Request
    → CallPlan D (CallEnd D)
lease_steps arenas id arena q = over_parts (take_plan arenas arena q) (on_take arenas id arena q)

-- by the name of its arena
abbrev pub lease_at : {D : Type 0} → List TreeArena → RequestId → Request → Option ℕ
    → CallPlan D (CallEnd D)
lease_at arenas id q (Some arena) = lease_steps arenas id arena q
lease_at arenas id q None = refuse_plan id refusal.NoArena

-- a number that isn't new is answered at once
abbrev pub on_look : {D : Type 0} → CallPlan D (CallEnd D) → Result (Option (Answer D)) Stopped
    → CallPlan D (CallEnd D)
on_look new (Ok None) = new
on_look new (Ok (Some a)) = Done (Ok (Answered a))
on_look new (Err e) = Done (Err (calling.Stopped None))

abbrev pub lease_plan : {D : Type 0} → List TreeArena → RequestId → LeaseLine
    → CallPlan D (CallEnd D)
lease_plan arenas id l = Call (Look id)
    (on_look (lease_at arenas id (demand_of l) (index_in l.arena arenas)))
